-- What stands before a command: the test of a while or an if, and whether it ends with an operand. Assumes nothing.
use Prim.Native.Nat.{ℕ, ◌<◌, ◌≤◌}
use mathlib.Core.Path.{◌≡◌, refl, sym, subst, ◌∙◌}
use mathlib.Core.Bool.{Bool, true, false, ◌||◌}
use mathlib.Core.Option.{some}
use mathlib.Core.List.{List, [], ◌∷◌}
use mathlib.Core.Logic.{◌⊎◌, inl, inr, ⊎_elim}
use native.Mathlib.Omega.{arith}
use native.Mathlib.Nat.{eq-or-lt_of_le}
use lib.Dec.{eqb}
use types.Run.{OneOf, miss}
use denote.Enum.Declared.{tag_of}
use borrow.Author.Tests.{ne_eqb}
use Rattle.rules.specs.declared.Node.{Node}
use Rattle.rules.specs.declared.Kind.TheVariants.{Test as a_test}
use Rattle.rules.specs.Image.{Tree, tags, row_of, kind_of, make_by, nodes_of, node_at, tree_at, row_in, line_of, line_in}
use Rattle.rules.proofs.Trees.{lower, tree_at-is}
use Rattle.rules.proofs.GoodFacts.{Good, GoodRow}
use Rattle.rules.proofs.TreeKinds.{◌&◌, test-cases}
use Rattle.image.specs.Read.{NodeRead}
use Rattle.writing.specs.WriteTokens.{ended_by}
use Rattle.writer.specs.declared.forms.How.{How}
use Rattle.writer.specs.declared.forms.How.TheVariants.{Nothing, Name, Field, Whole, Left, LeftOfDot, Right, RightOfDot, Callee, Target, Behind}
use Rattle.writer.specs.Forms.{operand_ends, test_ends, passed, test_before}
use Rattle.writer.specs.Walk.{HasTest}
use Rattle.writer.specs.contracts.forms.How.{the_type}

module _ (node : ℕ → Node) (t : ℕ) (h : kind_of (node t).tag ≡ some a_test) where
  test_by : {k : ℕ} → (node t).tag ≡ k → tree_at node t ≡ make_by (lower node t) t (line_of k) (node t)
  test_by e = rw (tree_at-is node t, e)

  ends-tag : (eqb (node t).tag 18 || eqb (node t).tag 19) ≡ test_ends (tree_at node t)
  unfolding make_by line_of line_in tags test_ends operand_ends ended_by
  ends-tag =
      test-cases
      (λ k. (node t).tag ≡ k → (eqb (node t).tag 18 || eqb (node t).tag 19) ≡ test_ends (tree_at node t))
      ((λ e. rw (test_by e, e) refl) & (λ e. rw (test_by e, e) refl) & (λ e. rw (test_by e, e) refl) & (λ e. rw (test_by e, e) refl) & tt)
      (node t).tag
      h
      refl

module _ (img : List ℕ) (t k : ℕ) (i : k ≡ (node_at img t).tag) (h : kind_of (node_at img t).tag ≡ some a_test) where
  compares_equal : k ≡ 18 → true ≡ test_ends (tree_at (node_at img) t)
  compares_equal e =
      let j : (node_at img t).tag ≡ 18 = sym i ∙ e in
      rw (← ends-tag (node_at img) t h, j) refl

  compares_less : k ≡ 19 → true ≡ test_ends (tree_at (node_at img) t)
  compares_less e =
      let j : (node_at img t).tag ≡ 19 = sym i ∙ e in
      rw (← ends-tag (node_at img) t h, j) refl

  compares_none : (k ≡ 18 → ⊥) → (k ≡ 19 → ⊥) → false ≡ test_ends (tree_at (node_at img) t)
  compares_none e f = rw (← ends-tag (node_at img) t h, ← i, ne_eqb k 18 e, ne_eqb k 19 f) refl

-- a while or an if
while-or-if : (k : ℕ) → 39 ≤ k → k < 41 → (k ≡ 39) ⊎ (k ≡ 40)
while-or-if k a b = ⊎_elim (λ (e : 39 ≡ k). inl (sym e)) (λ (l : 39 < k). inr (omega arith)) (eq-or-lt_of_le {n = 39} {m = k} a)

module _ (img : List ℕ) (g : Good img) (n : ℕ) (h : n < nodes_of img) (x : Node) (w : NodeRead img n x) where
  fits : {k : ℕ} → x.tag ≡ k → GoodRow img n (row_of k) x
  fits t = subst (λ (j : ℕ). GoodRow img n (row_of j) x) t (rw w.is (g.nodes n h))

  abbrev Tests : Type 0
  Tests = (x.a < nodes_of img) × (kind_of (node_at img x.a).tag ≡ some a_test)

  of-while : x.tag ≡ 39 → Tests
  unfolding row_of row_in line_of line_in tags
  of-while t = let f = fits t in let l = f.0.0 in (omega arith, f.0.1)

  of-if : x.tag ≡ 40 → Tests
  unfolding row_of row_in line_of line_in tags
  of-if t = let f = fits t in let l = f.0.0 in (omega arith, f.0.1)

  tests-both : 39 ≤ x.tag → x.tag < 41 → Tests
  tests-both a b = ⊎_elim of-while of-if (while-or-if x.tag a b)

  pub has_test : HasTest img x
  has_test = record { inside = λ a b. (tests-both a b).0; kind = λ a b. (tests-both a b).1 }

module _ (img : List ℕ) (x : Node) (t : HasTest img x) (a : 39 ≤ x.tag) (b : x.tag < 41) where
  pub test_inside : x.a < nodes_of img
  test_inside = t.inside a b

  module _ (k : ℕ) (i : k ≡ (node_at img x.a).tag) where
    before-is : {r : Bool} → r ≡ test_ends (tree_at (node_at img) x.a) → r ≡ test_before (tree_at (node_at img)) x.tag x.a
    unfolding test_before
    before-is {r} e = ⊎_elim (λ (j : x.tag ≡ 39). rw j e) (λ (j : x.tag ≡ 40). rw j e) (while-or-if x.tag a b)

    pub before_equal : k ≡ 18 → true ≡ test_before (tree_at (node_at img)) x.tag x.a
    before_equal e = before-is (compares_equal img x.a k i (t.kind a b) e)

    pub before_less : k ≡ 19 → true ≡ test_before (tree_at (node_at img)) x.tag x.a
    before_less e = before-is (compares_less img x.a k i (t.kind a b) e)

    pub before_no : (k ≡ 18 → ⊥) → (k ≡ 19 → ⊥) → false ≡ test_before (tree_at (node_at img)) x.tag x.a
    before_no e f = before-is (compares_none img x.a k i (t.kind a b) e f)

pub before_none : (at : ℕ → Tree) (k a : ℕ) → (k ≡ 39 → ⊥) → (k ≡ 40 → ⊥) → false ≡ test_before at k a
unfolding test_before
before_none at k a e i = rw (ne_eqb k 39 e, ne_eqb k 40 i) refl

pub passes-behind : (how : How) (f : Bool) → how ≡ Behind → f ≡ passed how f
unfolding passed
passes-behind how f e = rw e refl

pub passes-no : (how : How) (f : Bool) → OneOf (0 ∷ 1 ∷ 2 ∷ 3 ∷ 4 ∷ 5 ∷ 6 ∷ 7 ∷ 8 ∷ 9 ∷ []) (tag_of the_type how) → false ≡ passed how f
unfolding passed
passes-no Nothing f h = refl
passes-no Name f h = refl
passes-no Field f h = refl
passes-no Whole f h = refl
passes-no Left f h = refl
passes-no LeftOfDot f h = refl
passes-no Right f h = refl
passes-no RightOfDot f h = refl
passes-no Callee f h = refl
passes-no Target f h = refl
passes-no Behind f h = absurd (miss (0 ∷ 1 ∷ 2 ∷ 3 ∷ 4 ∷ 5 ∷ 6 ∷ 7 ∷ 8 ∷ 9 ∷ []) 10 tt h)

pub ruleset tests = (test_inside, before_equal, before_less, before_no, before_none, passes-behind, passes-no)
