-- Counting the uses of nodes, word by word and node by node: laws of the records of specs/Counts. Assumes nothing.
use Prim.Native.Nat.{ℕ, zero, suc, ◌+◌, ◌*◌, ◌<◌, ◌≤◌}
use mathlib.Core.Path.{◌≡◌, refl, sym, ap, ◌∙◌}
use mathlib.Core.Bool.{Bool, true, false, cond}
use mathlib.Core.Option.{Option, none, some}
use mathlib.Core.List.{List, [], ◌∷◌}
use types.Run.{OneOf, miss}
use denote.Enum.Declared.{tag_of}
use native.Mathlib.Omega.{arith}
use native.Mathlib.Numerals.{add-one}
use native.Mathlib.Decide.{ℕ_discrete, dec_lt}
use lib.ListN.{length, get_or, set, replicate, length-set, length-replicate, get_or-replicate, get_or-eq_default}
use lib.Seq.{get_or-set_same, get_or-set_other}
use lib.Dec.{eqb}
use borrow.Author.Tests.{eq-eqb, ne_eqb}
use Rattle.rules.specs.declared.Node.{Node}
use Rattle.rules.specs.declared.Kind.{Kind}
use Rattle.rules.specs.declared.Role.{Role}
use Rattle.rules.specs.declared.Role.TheVariants.{Unused, Index, Half, Uses, Binds, Child}
use Rattle.rules.specs.declared.Row.{Row}
use Rattle.rules.specs.Image.{row_of, nodes_of, node_at}
use Rattle.rules.specs.Refusals.{hit, hits, uses_of}
use Rattle.rules.specs.contracts.Role.{the_type}
use Rattle.checklaws.specs.Counts.{Most, Ticks, TicksAll, Counts}

-- ---- one word

hit-small : (p : Role) (w k : ℕ) → hit p w k ≤ 1
unfolding hit
hit-small Unused w k = omega arith
hit-small Index w k = omega arith
hit-small Half w k = omega arith
hit-small Uses w k = omega arith
hit-small Binds w k = omega arith
hit-small (Child j) w k = go (eqb w k)
  where
    go : (b : Bool) → cond b 1 0 ≤ 1
    go true = omega arith
    go false = omega arith

still : (p : Role) (w : ℕ) (t : List ℕ) → ((k : ℕ) → hit p w k ≡ 0) → Ticks p w t t
still p w t h = record { long = refl; adds = λ k l. let e = h k in omega arith }

module _ (w : ℕ) (t : List ℕ) where
  child-ticks : (j : Kind) (t' : List ℕ) → t' ≡ set t w (get_or t w 0 + 1) → Ticks (Child j) w t t'
  unfolding hit
  child-ticks j t' e =
      record {
        long = ap length e ∙ length-set t w (get_or t w 0 + 1);
        adds = λ k l.
            elim (ℕ_discrete w k) [
              | yes d ↦ rw (e, eq-eqb w k d, ← d) (get_or-set_same t w (get_or t w 0 + 1) 0 (rw (sym d) at l))
              | no f ↦
                  let g = get_or-set_other t w k (get_or t w 0 + 1) 0 (λ x. f (sym x)) in
                  rw (e, ne_eqb w k f) (omega arith)
            ];
      }

  pub a-child : (p : Role) (j : Kind) (t' : List ℕ) → p ≡ Child j → t' ≡ set t w (get_or t w 0 + 1) → Ticks p w t t'
  a-child p j t' d e = rw d (child-ticks j t' e)

  -- every role but `Child`
  pub no-child : (p : Role) → OneOf (0 ∷ 1 ∷ 2 ∷ 3 ∷ 4 ∷ []) (tag_of the_type p) → Ticks p w t t
  unfolding hit
  no-child Unused h = still Unused w t (λ k. refl)
  no-child Index h = still Index w t (λ k. refl)
  no-child Half h = still Half w t (λ k. refl)
  no-child Uses h = still Uses w t (λ k. refl)
  no-child Binds h = still Binds w t (λ k. refl)
  no-child (Child k) h = absurd (miss (0 ∷ 1 ∷ 2 ∷ 3 ∷ 4 ∷ []) 5 tt h)

-- ---- how large the numbers grow

module _ {t t' : List ℕ} where
  most-ticks : {p : Role} {w : ℕ} (b b' : ℕ) → Most b t → Ticks p w t t' → suc b ≤ b' → Most b' t'
  most-ticks {p} {w} b b' m h l = record { most = go }
    where
      go : (k : ℕ) → get_or t' k 0 ≤ b'
      go k =
          elim (dec_lt k (length t)) [
            | yes i ↦ let e = h.adds k i in let x = m.most k in let y = hit-small p w k in omega arith
            | no f ↦
                let e = h.long in
                let z : get_or t' k 0 ≡ 0 = get_or-eq_default t' 0 (omega arith) in
                omega arith
          ]

-- before the first of three words, the second and the third
pub room-first : (t : List ℕ) → Most 60000 t → Most 65534 t
room-first t m = record { most = λ k. let x = m.most k in omega arith }

pub room-second : (p : Role) (w : ℕ) (t t₁ : List ℕ) → Ticks p w t t₁ → Most 60000 t → Most 65534 t₁
room-second p w t t₁ h m = most-ticks 60000 65534 m h (omega arith)

pub room-third : {p q : Role} {w v : ℕ} {t t₁ t₂ : List ℕ} → Ticks q v t₁ t₂ → Ticks p w t t₁ → Most 60000 t → Most 65534 t₂
room-third i h m = most-ticks 60001 65534 (most-ticks 60000 60001 m h (omega arith)) i (omega arith)

-- ---- three words

pub all_three : (r : Row) (x : Node) (t t₁ t₂ t₃ : List ℕ)
    → Ticks r.a x.a t t₁ → Ticks r.b x.b t₁ t₂ → Ticks r.c x.c t₂ t₃ → TicksAll r x t t₃
all_three r x t t₁ t₂ t₃ h i j =
    let a = h.long in
    let b = i.long in
    let c = j.long in
    record {
      long = omega arith;
      adds = λ k l.
          let d = h.adds k l in
          let e = i.adds k (omega arith) in
          let f = j.adds k (omega arith) in
          omega arith;
    }

-- ---- nodes

hits-small : (o : Option Row) (x : Node) (k : ℕ) → hits o x k ≤ 3
unfolding hits
hits-small none x k = omega arith
hits-small (some r) x k =
    let a = hit-small r.a x.a k in
    let b = hit-small r.b x.b k in
    let c = hit-small r.c x.c k in
    omega arith

module _ (img : List ℕ) where
  uses-small : (k m : ℕ) → uses_of img k m ≤ 3 * m
  unfolding uses_of
  uses-small k zero = omega arith
  uses-small k (suc m) =
      let a = uses-small k m in
      let b = hits-small (row_of (node_at img m).tag) (node_at img m) k in
      omega arith

  pub counts-most : (n : ℕ) (t : List ℕ) → n < 2048 → Counts img n t → Most 60000 t
  counts-most n t l h = record { most = go }
    where
      go : (k : ℕ) → get_or t k 0 ≤ 60000
      go k =
          elim (dec_lt k (length t)) [
            | yes i ↦ let e = h.counts k i in let x = uses-small k n in omega arith
            | no f ↦
                let z : get_or t k 0 ≡ 0 = get_or-eq_default t 0 (omega arith) in
                omega arith
          ]

  pub counts-none : (z : ℕ) → nodes_of img ≤ z → Counts img 0 (replicate z 0)
  unfolding uses_of
  counts-none z h =
      let e : length (replicate {A = ℕ} z 0) ≡ z = length-replicate {A = ℕ} z 0 in
      record { long = omega arith; counts = λ k l. get_or-replicate {A = ℕ} z k 0 0 (omega arith) }

  one_more : (n : ℕ) (t t' : List ℕ)
      → Counts img n t
      → length t' ≡ length t
      → ((k : ℕ) → k < length t → get_or t' k 0 ≡ get_or t k 0 + hits (row_of (node_at img n).tag) (node_at img n) k)
      → Counts img (n + 1) t'
  unfolding uses_of
  one_more n t t' h e f =
      let l = h.long in
      record {
        long = omega arith;
        counts = λ k i.
            let a = f k (omega arith) in
            let b = h.counts k (omega arith) in
            rw (add-one n) (omega arith);
      }

  module _ (n : ℕ) (x : Node) (is : x ≡ node_at img n) (t : List ℕ) (h : Counts img n t) where
    pub no-tag-counts : row_of x.tag ≡ none → Counts img (n + 1) t
    unfolding hits
    no-tag-counts e = one_more n t t h refl (λ k l. rw (← is, e) (omega arith))

    pub node_counts : (r : Row) (t' : List ℕ) → row_of x.tag ≡ some r → TicksAll r x t t' → Counts img (n + 1) t'
    unfolding hits
    node_counts r t' e f = one_more n t t' h f.long (λ k l. rw (← is, e) (f.adds k l))

  pub counts_end : (n m : ℕ) (t : List ℕ) → m ≡ nodes_of img → n ≤ m → m ≤ n → Counts img n t → Counts img (nodes_of img) t
  counts_end n m t e l k h = let d : n ≡ nodes_of img = omega arith in rw d at h

pub ruleset ticking = (a-child, no-child, room-first, room-second, all_three)

pub ruleset counting = (counts-none, counts-most, no-tag-counts, node_counts, counts_end)
