-- Names handed down in a list: the root holds the names visible there, and no other node any, at the start (`shown-root`); and a
-- node that is visited hands its names on (`visited-row`, `visited-none`). Assumes nothing.
use Prim.Native.Nat.{ℕ, ◌+◌, ◌-◌, ◌<◌, ◌≤◌}
use mathlib.Core.Path.{◌≡◌, refl, sym, ap, subst, ◌∙◌}
use mathlib.Core.Bool.{Bool, true, false, cond}
use mathlib.Core.Option.{Option, none, some}
use mathlib.Core.List.{List, [], ◌∷◌}
use types.Run.{OneOf, miss}
use denote.Enum.Declared.{tag_of}
use native.Mathlib.Omega.{arith}
use native.Mathlib.Decide.{ℕ_discrete, dec_lt}
use lib.ListN.{length, get_or, set, replicate, length-set, length-replicate, get_or-replicate, get_or-eq_default}
use lib.Seq.{get_or-set_same, get_or-set_other}
use lib.Dec.{eqb, ltb}
use borrow.Author.Tests.{eq-eqb, ne_eqb, lt-ltb, le-ltb, ltb-false}
use Rattle.rules.specs.declared.Node.{Node}
use Rattle.rules.specs.declared.Verdict.{Verdict}
use Rattle.rules.specs.declared.Kind.{Kind}
use Rattle.rules.specs.declared.Role.{Role}
use Rattle.rules.specs.declared.Role.TheVariants.{Unused, Index, Half, Uses, Binds, Child}
use Rattle.rules.specs.declared.Row.{Row}
use Rattle.rules.specs.Image.{row_of, nodes_of, node_at}
use Rattle.rules.specs.Scope.{Names}
use Rattle.rules.specs.Refusals.{hit, hits}
use Rattle.rules.specs.contracts.Role.{the_type}
use Rattle.rules.proofs.GoodFacts.{Fit, GoodRow}
use Rattle.checklaws.specs.Pieces.{names_say}
use Rattle.checklaws.specs.Hands.{Formed, handed, stray_at}
use Rattle.rules.proofs.StrayRows.{stray_word, grow_word, stray_row, grow_row}
use Rattle.checklaws.specs.Bits.{Shows, NameFits, given, given_all, Shown, Visited}
use Rattle.checklaws.proofs.Parents.{hits_at}
use Rattle.checklaws.proofs.Hands.{handed-none, handed-step}
use Rattle.checklaws.proofs.BitLaws.{shows-none}

-- ---- the lists

pub given-long : (p : Role) (w v : ℕ) (t : List ℕ) → length (given p w v t) ≡ length t
given-long Unused w v t = refl
given-long Index w v t = refl
given-long Half w v t = refl
given-long Uses w v t = refl
given-long Binds w v t = refl
given-long (Child k) w v t = length-set t w v

pub gives-child : (p : Role) (k : Kind) (w v : ℕ) (t t' : List ℕ) → p ≡ Child k → t' ≡ set t w v → t' ≡ given p w v t
gives-child p k w v t t' e h = rw e h

-- every role but `Child`
pub gives_none : (p : Role) (w v : ℕ) (t : List ℕ) → OneOf (0 ∷ 1 ∷ 2 ∷ 3 ∷ 4 ∷ []) (tag_of the_type p) → t ≡ given p w v t
gives_none Unused w v t h = refl
gives_none Index w v t h = refl
gives_none Half w v t h = refl
gives_none Uses w v t h = refl
gives_none Binds w v t h = refl
gives_none (Child k) w v t h = absurd (miss (0 ∷ 1 ∷ 2 ∷ 3 ∷ 4 ∷ []) 5 tt h)

pub ruleset giving = (gives-child, gives_none)

given-at : (p : Role) (w v : ℕ) (t : List ℕ) (k : ℕ) → k < length t → get_or (given p w v t) k 0 ≡ cond (ltb 0 (hit p w k)) v (get_or t k 0)
unfolding hit
given-at Unused w v t k l = refl
given-at Index w v t k l = refl
given-at Half w v t k l = refl
given-at Uses w v t k l = refl
given-at Binds w v t k l = refl
given-at (Child j) w v t k l =
    elim (ℕ_discrete w k) [
      | yes d ↦ rw (eq-eqb w k d, ← d) (get_or-set_same t w v 0 (rw (sym d) at l))
      | no f ↦ rw (ne_eqb w k f) (get_or-set_other t w k v 0 (λ e. f (sym e)))
    ]

all-long : (r : Row) (x : Node) (v : ℕ) (t : List ℕ) → length (given_all r x v t) ≡ length t
all-long r x v t =
    given-long r.c x.c v (given r.b x.b v (given r.a x.a v t))
    ∙ given-long r.b x.b v (given r.a x.a v t)
    ∙ given-long r.a x.a v t

any : (a b c v d : ℕ) → cond (ltb 0 c) v (cond (ltb 0 b) v (cond (ltb 0 a) v d)) ≡ cond (ltb 0 (a + b + c)) v d
any a b c v d =
    elim (dec_lt 0 (a + b + c)) [
      | yes h ↦ rw (lt-ltb 0 (a + b + c) h) (go h (ltb 0 a) (ltb 0 b) (ltb 0 c) refl refl refl)
      | no h ↦
          rw
          (le-ltb 0 (a + b + c) (omega arith), le-ltb 0 a (omega arith), le-ltb 0 b (omega arith), le-ltb 0 c (omega arith))
    ]
  where
    go : 0 < a + b + c → (i j k : Bool) → ltb 0 a ≡ i → ltb 0 b ≡ j → ltb 0 c ≡ k → cond k v (cond j v (cond i v d)) ≡ v
    go h i j true e f g = refl
    go h i true false e f g = refl
    go h true false false e f g = refl
    go h false false false e f g =
        absurd (let x = ltb-false 0 a e in let y = ltb-false 0 b f in let z = ltb-false 0 c g in omega arith)

all-at : (r : Row) (x : Node) (v : ℕ) (t : List ℕ) (k : ℕ) → k < length t → get_or (given_all r x v t) k 0 ≡ cond (ltb 0 (hit r.a x.a k + hit r.b x.b k + hit r.c x.c k)) v (get_or t k 0)
all-at r x v t k l =
    let t₁ = given r.a x.a v t in
    let t₂ = given r.b x.b v t₁ in
    let e = given-long r.a x.a v t in
    let d = given-long r.b x.b v t₁ in
    given-at r.c x.c v t₂ k (omega arith)
    ∙ rw (given-at r.b x.b v t₁ k (omega arith), given-at r.a x.a v t k l)
    (any (hit r.a x.a k) (hit r.b x.b k) (hit r.c x.c k) v (get_or t k 0))

-- ---- the start

none-held : (z k : ℕ) → get_or (replicate {A = ℕ} z 0) k 0 ≡ 0
none-held z k =
    elim (dec_lt k z) [
      | yes l ↦ get_or-replicate {A = ℕ} z k 0 0 l
      | no f ↦ get_or-eq_default (replicate {A = ℕ} z 0) 0 (omega (arith, length-replicate {A = ℕ} z 0))
    ]

-- the names visible at the root are put at the last node
shown-root : (img : List ℕ) (z n w : ℕ) (visible : Names) → n < z → n + 1 ≡ nodes_of img → Shows w visible → Shown visible img (nodes_of img) (set (replicate z 0) n w)
shown-root img z n w visible h e s = record { shows = λ k l. rw (handed-none visible img k) (go k (ℕ_discrete k n)) }
  where
    go : (k : ℕ) → Dec (k ≡ n) → Shows (get_or (set (replicate z 0) n w) k 0) (cond (eqb (k + 1) (nodes_of img)) visible [])
    go k (yes d) =
        rw (d, eq-eqb (n + 1) (nodes_of img) e, get_or-set_same (replicate z 0) n w 0 (omega (arith, length-replicate {A = ℕ} z 0))) s
    go k (no g) =
        rw (ne_eqb (k + 1) (nodes_of img) (λ d. g (omega arith)), get_or-set_other (replicate z 0) n k w 0 g, none-held z k) shows-none

pub from-root : (img held : List ℕ) (z m w : ℕ) (r : Verdict)
    → ((visible : Names) → Shown visible img (nodes_of img) held → r ≡ names_say visible img (nodes_of img))
    → held ≡ set (replicate z 0) (m - 1) w → m ≡ nodes_of img → nodes_of img ≤ z → Formed img
    → (visible : Names) → Shows w visible → r ≡ names_say visible img (nodes_of img)
from-root img held z m w r says d e l g visible s =
    let y = g.sized.some-node in
    says visible (rw d (shown-root img z (m - 1) w visible (omega arith) (omega arith) s))

pub handed-down-at : (visible : Names) (img : List ℕ) (n m : ℕ) (held : List ℕ) → n ≡ m → Shown visible img n held → Shown visible img m held
handed-down-at visible img n m held e h = rw (← e) h

-- ---- a visit

module _ (img : List ℕ) (n : ℕ) (l : n < nodes_of img) (x : Node) (is : x ≡ node_at img n) (r : Row) (e : row_of x.tag ≡ some r) where
  pub name-fits : Formed img → NameFits r.a x.a
  name-fits g =
      let f = subst (λ (y : Node). GoodRow img n (row_of y.tag) y) (sym is) (g.nodes n l) in
      go r.a (subst (λ (o : Option Row). GoodRow img n o x) e f).0
    where
      go : (u : Role) → Fit img n u x.a → NameFits u x.a
      go Unused f = tt
      go Index f = tt
      go Half f = tt
      go Uses f = let m = g.sized.few-names in omega arith
      go Binds f = let m = g.sized.few-names in omega arith
      go (Child k) f = tt

module _ (visible : Names) (img : List ℕ) (n : ℕ) (l : n < nodes_of img) (x : Node) (is : x ≡ node_at img n) where
  step : (k : ℕ) → handed visible img n k ≡ cond (ltb 0 (hits (row_of x.tag) x k)) (grow_row (handed visible img (n + 1) n) (row_of x.tag) x) (handed visible img (n + 1) k)
  unfolding hits_at
  step k = handed-step visible img n k l ∙ rw (← is)

  module _ (e : row_of x.tag ≡ none) where
    pub stray-none : false ≡ stray_at visible img n
    unfolding stray_at stray_row
    stray-none = rw (← is, e)

    pub visited-none : (held : List ℕ) → Shown visible img (n + 1) held → Shown visible img n held
    unfolding hits
    visited-none held h =
        record { shows = λ k i. rw (step k, e) (h.shows k i) }

  module _ (r : Row) (e : row_of x.tag ≡ some r) where
    by-role : (k : ℕ) → hits (row_of x.tag) x k ≡ hit r.a x.a k + hit r.b x.b k + hit r.c x.c k
    unfolding hits
    by-role k = rw e

    grow-role : (others : Names) → grow_row others (row_of x.tag) x ≡ grow_word others r.a x.a
    unfolding grow_row
    grow-role others = rw e

    stray-role : (others : Names) → stray_row others (row_of x.tag) x ≡ stray_word others r.a x.a
    unfolding stray_row
    stray-role others = rw e

    module _ (held held' : List ℕ) (bad : Bool) (h : Shown visible img (n + 1) held) (room : nodes_of img ≤ length held) (v : Visited r x n held held' bad) where
      m : n < length held
      m = omega arith

      pub stray-row : bad ≡ stray_at visible img n
      unfolding stray_at
      stray-row =
          v.strays (handed visible img (n + 1) n) (h.shows n m)
          ∙ sym (stray-role (handed visible img (n + 1) n))
          ∙ rw (← is)

      either : (b : Bool) (k : ℕ) → k < length held → Shows (cond b v.names (get_or held k 0)) (cond b (grow_row (handed visible img (n + 1) n) (row_of x.tag) x) (handed visible img (n + 1) k))
      either true k i =
          rw (grow-role (handed visible img (n + 1) n)) (v.grows (handed visible img (n + 1) n) (h.shows n m))
      either false k i = h.shows k i

      pub visited-row : Shown visible img n held'
      visited-row =
          let long : length held' ≡ length held = ap length v.gives ∙ all-long r x v.names held in
          record {
            shows = λ k i.
                let j : k < length held = omega arith in
                rw (v.gives, all-at r x v.names held k j, step k, by-role k)
                (either (ltb 0 (hit r.a x.a k + hit r.b x.b k + hit r.c x.c k)) k j);
          }

pub ruleset visiting = (name-fits, stray-none, visited-none, stray-row, visited-row)
