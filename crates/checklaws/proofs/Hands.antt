-- Names handed down from the last node are those that the tree hands down: in a formed script, the tree strays at a node
-- exactly when the node strays by the names that it was handed (`strays-is`). Where a node doesn't stray, no tree strays
-- there, from the leaves up (`never-strays`); where it does, so does each tree that it stands in, up to the root
-- (`climb`). Assumes nothing.
use Prim.Native.Nat.{ℕ, zero, suc, ◌+◌, ◌-◌, ◌<◌, ◌≤◌}
use mathlib.Core.Path.{◌≡◌, refl, ap, ◌∙◌}
use mathlib.Core.Bool.{Bool, true, false, cond, ◌&&◌, ◌||◌}
use mathlib.Core.Option.{Option, none, some}
use mathlib.Core.List.{List, []}
use mathlib.Core.Logic.{⊎_elim}
use native.Mathlib.Omega.{arith}
use native.Mathlib.Nat.{eq-or-lt_of_le}
use lib.Dec.{eqb, ltb}
use borrow.Author.Tests.{lt-ltb, eq-eqb, eqb-true}
use Rattle.rules.specs.declared.Node.{Node}
use Rattle.rules.specs.declared.Role.{Role}
use Rattle.rules.specs.declared.Role.TheVariants.{Unused, Index, Half, Uses, Binds, Child}
use Rattle.rules.specs.declared.Row.{Row}
use Rattle.rules.specs.Image.{row_of, nodes_of, node_at, tree_at}
use Rattle.rules.specs.Scope.{Names}
use Rattle.rules.specs.Refusals.{hit, hits}
use Rattle.rules.proofs.Strays.{strays_tree}
use Rattle.checklaws.specs.Hands.{Formed, hand_on, handed_by, handed, stray_at}
use Rattle.rules.proofs.StrayRows.{stray_row, grow_row, stray_below, stray_kids, row_strays, strays-row}
use Rattle.checklaws.proofs.Parents.{hits_at, only, parent, hit-is, one_of, child-below}

-- ---- the trees of the children

module _ (img : List ℕ) (visible : Names) (t : ℕ) where
  below_none : (p : Role) (w : ℕ) → (0 < hit p w w → strays_tree visible (tree_at (node_at img) w) t ≡ false) → stray_below img visible p w t ≡ false
  unfolding stray_below hit
  below_none Unused w f = refl
  below_none Index w f = refl
  below_none Half w f = refl
  below_none Uses w f = refl
  below_none Binds w f = refl
  below_none (Child k) w f = f (rw (eq-eqb w w refl) (omega arith))

  kids-none : (o : Option Row) (x : Node) → ((w : ℕ) → 0 < hits o x w → strays_tree visible (tree_at (node_at img) w) t ≡ false) → stray_kids img visible o x t ≡ false
  unfolding stray_kids hits
  kids-none none x f = refl
  kids-none (some r) x f =
      rw
      (below_none r.a x.a (λ h. f x.a (omega arith)), below_none r.b x.b (λ h. f x.b (omega arith)), below_none r.c x.c (λ h. f x.c (omega arith)))

  below-some : (p : Role) (v w : ℕ) → 0 < hit p v w → strays_tree visible (tree_at (node_at img) w) t ≡ true → stray_below img visible p v t ≡ true
  unfolding stray_below hit
  below-some Unused v w h e = absurd (omega arith)
  below-some Index v w h e = absurd (omega arith)
  below-some Half v w h e = absurd (omega arith)
  below-some Uses v w h e = absurd (omega arith)
  below-some Binds v w h e = absurd (omega arith)
  below-some (Child k) v w h e = rw (hit-is (Child k) v w h) e

  or_left : (a b c : Bool) → a ≡ true → (a || b || c) ≡ true
  or_left a b c e = rw e

  or-mid : (a b c : Bool) → b ≡ true → (a || b || c) ≡ true
  or-mid true b c e = refl
  or-mid false b c e = rw e

  or_right : (a b c : Bool) → c ≡ true → (a || b || c) ≡ true
  or_right true b c e = refl
  or_right false true c e = refl
  or_right false false c e = e

  kids-some : (o : Option Row) (x : Node) (w : ℕ) → 0 < hits o x w → strays_tree visible (tree_at (node_at img) w) t ≡ true → stray_kids img visible o x t ≡ true
  unfolding stray_kids hits
  kids-some none x w h e = absurd (omega arith)
  kids-some (some r) x w h e =
      let a = stray_below img visible r.a x.a t in
      let b = stray_below img visible r.b x.b t in
      let c = stray_below img visible r.c x.c t in
      one_of (hit r.a x.a w) (hit r.b x.b w) (hit r.c x.c w) h
      (λ i. or_left a b c (below-some r.a x.a w i e))
      (λ i. or-mid a b c (below-some r.b x.b w i e))
      (λ i. or_right a b c (below-some r.c x.c w i e))

-- ---- what is handed

module _ (visible : Names) (img : List ℕ) where
  pub handed-none : (k : ℕ) → handed visible img (nodes_of img) k ≡ cond (eqb (k + 1) (nodes_of img)) visible []
  unfolding handed handed_by
  handed-none k = let e : nodes_of img - nodes_of img ≡ 0 = omega arith in rw (e, handed_by)

  pub handed-step : (n k : ℕ) → n < nodes_of img → handed visible img n k ≡ cond (ltb 0 (hits_at img k n)) (grow_row (handed visible img (n + 1) n) (row_of (node_at img n).tag) (node_at img n)) (handed visible img (n + 1) k)
  unfolding handed handed_by hand_on hits_at
  handed-step n k l =
      let e : nodes_of img - n ≡ suc (nodes_of img - (n + 1)) = omega arith in
      let d : nodes_of img - suc (nodes_of img - (n + 1)) ≡ n = omega arith in
      rw (e, handed_by, d)

  keeps : (d n k : ℕ) → d + n ≤ nodes_of img → ((i : ℕ) → n ≤ i → i < d + n → hits_at img k i ≡ 0) → handed visible img n k ≡ handed visible img (d + n) k
  keeps zero n k l f = let e : 0 + n ≡ n = omega arith in rw e
  keeps (suc d) n k l f =
      let z = f n (omega arith) (omega arith) in
      let e : suc d + n ≡ d + (n + 1) = omega arith in
      handed-step n k (omega arith)
      ∙ rw (z, e) (keeps d (n + 1) k (omega arith) (λ i g h. f i (omega arith) (omega arith)))

-- ---- a formed script

module _ (visible : Names) (img : List ℕ) (g : Formed img) where
  names : ℕ → Names
  names n = handed visible img (n + 1) n

  child-names : (n c : ℕ) → n < nodes_of img → 0 < hits_at img c n → names c ≡ grow_row (names n) (row_of (node_at img n).tag) (node_at img n)
  unfolding names
  child-names n c l h =
      let b = child-below img n c (g.nodes n l) h in
      let once = g.once c (omega arith) in
      let e : (n - (c + 1)) + (c + 1) ≡ n = omega arith in
      let kept =
      keeps visible img (n - (c + 1)) (c + 1) c (omega arith)
      (λ i j k. only img c (nodes_of img) n i once l h (omega arith) (λ d. omega arith)) in
      (rw e at kept) ∙ handed-step visible img n c l ∙ rw (lt-ltb 0 (hits_at img c n) h)

  root_names : (n : ℕ) → n + 1 ≡ nodes_of img → names n ≡ visible
  unfolding names
  root_names n e = ap (λ (m : ℕ). handed visible img m n) e ∙ handed-none visible img n ∙ rw (eq-eqb (n + 1) (nodes_of img) e)

  and_none : (n t : ℕ) → stray_at visible img t ≡ false → (eqb n t && stray_row (names n) (row_of (node_at img n).tag) (node_at img n)) ≡ false
  unfolding stray_at names
  and_none n t e = go (eqb n t) refl
    where
      go : (b : Bool) → eqb n t ≡ b → (b && stray_row (handed visible img (n + 1) n) (row_of (node_at img n).tag) (node_at img n)) ≡ false
      go true h = let d = eqb-true n t h in rw d e
      go false h = refl

  -- a node whose children's trees don't stray at t, and which doesn't itself
  none_here : (t n : ℕ) → stray_at visible img t ≡ false → n < nodes_of img → ((w : ℕ) → w < n → strays_tree (names w) (tree_at (node_at img) w) t ≡ false) → strays_tree (names n) (tree_at (node_at img) n) t ≡ false
  unfolding row_strays hits_at
  none_here t n e l f =
      strays-row img (names n) n t (g.nodes n l)
      ∙ rw
      (and_none n t e, kids-none img (grow_row (names n) (row_of (node_at img n).tag) (node_at img n)) t (row_of (node_at img n).tag) (node_at img n) (λ w h. rw (← child-names n w l h) (f w (child-below img n w (g.nodes n l) h))))

  never-strays : (t : ℕ) → stray_at visible img t ≡ false → (b n : ℕ) → n < b → n < nodes_of img → strays_tree (names n) (tree_at (node_at img) n) t ≡ false
  never-strays t e zero n l h = absurd (omega arith)
  never-strays t e (suc b) n l h =
      none_here t n e h (λ w i. never-strays t e b w (omega arith) (omega arith))

  or-last : (a b : Bool) → b ≡ true → (a || b) ≡ true
  or-last true b e = refl
  or-last false b e = e

  -- a node one of whose children's trees strays at t
  some-here : (t n c : ℕ) → n < nodes_of img → 0 < hits_at img c n → strays_tree (names c) (tree_at (node_at img) c) t ≡ true → strays_tree (names n) (tree_at (node_at img) n) t ≡ true
  unfolding row_strays hits_at
  some-here t n c l h e =
      let f : strays_tree (grow_row (names n) (row_of (node_at img n).tag) (node_at img n)) (tree_at (node_at img) c) t ≡ true = rw (child-names n c l h) at e in
      strays-row img (names n) n t (g.nodes n l)
      ∙ or-last (eqb n t && stray_row (names n) (row_of (node_at img n).tag) (node_at img n)) _ (kids-some img (grow_row (names n) (row_of (node_at img n).tag) (node_at img n)) t (row_of (node_at img n).tag) (node_at img n) c h f)

  AtRoot : ℕ → Type 0
  AtRoot t = strays_tree visible (tree_at (node_at img) (nodes_of img - 1)) t ≡ true

  at-root : (t c : ℕ) → c + 1 ≡ nodes_of img → strays_tree (names c) (tree_at (node_at img) c) t ≡ true → AtRoot t
  unfolding AtRoot
  at-root t c d e =
      let z : nodes_of img - 1 ≡ c = omega arith in
      rw (z, ← root_names c d) e

  climb : (t d c : ℕ) → c < nodes_of img → nodes_of img ≤ c + 1 + d → strays_tree (names c) (tree_at (node_at img) c) t ≡ true → AtRoot t
  climb t zero c l m e = at-root t c (omega arith) e
  climb t (suc d) c l m e =
      ⊎_elim
      (λ (z : suc c ≡ nodes_of img). at-root t c (omega arith) e)
      (λ (z : suc c < nodes_of img).
      let u = g.once c z in
      let p = parent img c (nodes_of img) (omega arith) in
      let b = child-below img p.node c (g.nodes p.node p.below) p.hits-it in
      climb t d p.node p.below (omega arith) (some-here t p.node c p.below p.hits-it e))
      (eq-or-lt_of_le {n = suc c} {m = nodes_of img} l)

  own-strays : (t : ℕ) → t < nodes_of img → stray_at visible img t ≡ true → strays_tree (names t) (tree_at (node_at img) t) t ≡ true
  unfolding row_strays stray_at names
  own-strays t l e = strays-row img (names t) t t (g.nodes t l) ∙ rw (eq-eqb t t refl, e)

  pub strays-is : (t : ℕ) → t < nodes_of img → strays_tree visible (tree_at (node_at img) (nodes_of img - 1)) t ≡ stray_at visible img t
  unfolding AtRoot
  strays-is t l = go (stray_at visible img t) refl
    where
      go : (b : Bool) → stray_at visible img t ≡ b → strays_tree visible (tree_at (node_at img) (nodes_of img - 1)) t ≡ b
      go true e = climb t (nodes_of img) t l (omega arith) (own-strays t l e)
      go false e =
          rw (← root_names (nodes_of img - 1) (omega arith))
          (never-strays t e (nodes_of img) (nodes_of img - 1) (omega arith) (omega arith))
