-- Parents: a node that is used has a parent (`parent`), a node that is used once has one alone (`only`), and a child stands
-- below its parent (`child-below`). Assumes nothing.
use Prim.Native.Nat.{ℕ, zero, suc, ◌+◌, ◌<◌, ◌≤◌}
use mathlib.Core.Path.{◌≡◌, refl}
use mathlib.Core.Bool.{Bool, true, false, cond}
use mathlib.Core.Option.{Option, none, some}
use mathlib.Core.List.{List}
use mathlib.Core.Logic.{⊎_elim}
use native.Mathlib.Omega.{arith}
use native.Mathlib.Nat.{eq-or-lt_of_le}
use native.Mathlib.Decide.{dec_lt}
use lib.Dec.{eqb}
use borrow.Author.Tests.{eqb-true}
use Rattle.rules.specs.declared.Node.{Node}
use Rattle.rules.specs.declared.Role.{Role}
use Rattle.rules.specs.declared.Role.TheVariants.{Unused, Index, Half, Uses, Binds, Child}
use Rattle.rules.specs.declared.Row.{Row}
use Rattle.rules.specs.Image.{row_of, node_at}
use Rattle.rules.specs.Refusals.{hit, hits, uses_of}
use Rattle.rules.proofs.GoodFacts.{Fit, GoodRow}

-- how often k is a child of node n
unfoldable pub hits_at : List ℕ → ℕ → ℕ → ℕ
hits_at img k n = hits (row_of (node_at img n).tag) (node_at img n) k

pub record Parent (img : List ℕ) (k m : ℕ) : Type 0 where
  pub node : ℕ
  pub below : node < m
  pub hits-it : 0 < hits_at img k node

module _ (img : List ℕ) (k : ℕ) where
  uses-more : (m : ℕ) → uses_of img k (suc m) ≡ uses_of img k m + hits_at img k m
  unfolding uses_of hits_at
  uses-more m = refl

  at_most : (m n : ℕ) → n < m → hits_at img k n ≤ uses_of img k m
  at_most zero n l = absurd (omega arith)
  at_most (suc m) n l =
      let e = uses-more m in
      ⊎_elim
      (λ (d : n ≡ m). rw d (omega arith))
      (λ (h : n < m). let i = at_most m n h in omega arith)
      (eq-or-lt_of_le {n = n} {m = m} (omega arith))

  both : (m n i : ℕ) → n < i → i < m → hits_at img k n + hits_at img k i ≤ uses_of img k m
  both zero n i l h = absurd (omega arith)
  both (suc m) n i l h =
      let e = uses-more m in
      ⊎_elim
      (λ (d : i ≡ m). let j = at_most m n (omega arith) in rw d (omega arith))
      (λ (g : i < m). let j = both m n i l g in omega arith)
      (eq-or-lt_of_le {n = i} {m = m} (omega arith))

  pub only : (m n i : ℕ) → uses_of img k m ≡ 1 → n < m → 0 < hits_at img k n → i < m → (i ≡ n → ⊥) → hits_at img k i ≡ 0
  only m n i e l h g f =
      elim (dec_lt i n) [
        | yes b ↦ let j = both m i n b l in omega arith
        | no b ↦
            let c : n < i = omega arith in
            let j = both m n i c g in
            omega arith
      ]

  pub parent : (m : ℕ) → 0 < uses_of img k m → Parent img k m
  unfolding uses_of
  parent zero h = absurd (omega arith)
  parent (suc m) h = go (λ i. parent m i) (dec_lt 0 (hits_at img k m))
    where
      go : (0 < uses_of img k m → Parent img k m) → Dec (0 < hits_at img k m) → Parent img k (suc m)
      go rest (yes i) = record { node = m; below = omega arith; hits-it = i }
      go rest (no i) =
          let e = uses-more m in
          let p = rest (omega arith) in
          let l = p.below in
          record { node = p.node; below = omega arith; hits-it = p.hits-it }

-- a word that is hit is a child's number
pub hit-is : (p : Role) (w k : ℕ) → 0 < hit p w k → w ≡ k
unfolding hit
hit-is Unused w k h = absurd (omega arith)
hit-is Index w k h = absurd (omega arith)
hit-is Half w k h = absurd (omega arith)
hit-is Uses w k h = absurd (omega arith)
hit-is Binds w k h = absurd (omega arith)
hit-is (Child j) w k h = go (eqb w k) refl h
  where
    go : (b : Bool) → eqb w k ≡ b → 0 < cond b 1 0 → w ≡ k
    go true e i = eqb-true w k e
    go false e i = absurd (omega arith)

-- one of three words
pub one_of : {P : Type 0} (a b c : ℕ) → 0 < a + b + c → (0 < a → P) → (0 < b → P) → (0 < c → P) → P
one_of (suc a) b c h f g k = f (omega arith)
one_of zero (suc b) c h f g k = g (omega arith)
one_of zero zero c h f g k = k (omega arith)

module _ (img : List ℕ) (n : ℕ) where
  word_below : (p : Role) (w k : ℕ) → Fit img n p w → 0 < hit p w k → w < n
  unfolding hit
  word_below Unused w k f h = absurd (omega arith)
  word_below Index w k f h = absurd (omega arith)
  word_below Half w k f h = absurd (omega arith)
  word_below Uses w k f h = absurd (omega arith)
  word_below Binds w k f h = absurd (omega arith)
  word_below (Child j) w k f h = f.0

  row_below : (o : Option Row) (x : Node) (k : ℕ) → GoodRow img n o x → 0 < hits o x k → k < n
  unfolding hits
  row_below none x k f h = absurd f
  row_below (some r) x k f h =
      one_of (hit r.a x.a k) (hit r.b x.b k) (hit r.c x.c k) h
      (λ i. rw (← hit-is r.a x.a k i) (word_below r.a x.a k f.0 i))
      (λ i. rw (← hit-is r.b x.b k i) (word_below r.b x.b k f.1 i))
      (λ i. rw (← hit-is r.c x.c k i) (word_below r.c x.c k f.2 i))

  pub child-below : (k : ℕ) → GoodRow img n (row_of (node_at img n).tag) (node_at img n) → 0 < hits_at img k n → k < n
  unfolding hits_at
  child-below k f h = row_below (row_of (node_at img n).tag) (node_at img n) k f h
