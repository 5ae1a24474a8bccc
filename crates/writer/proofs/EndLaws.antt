-- How expressions end and begin, node by node; and what is asked of that is what is asked of the tree. Assumes nothing.
use Prim.Native.Nat.{ℕ, ◌+◌, ◌*◌, ◌<◌, ◌≤◌}
use mathlib.Core.Path.{◌≡◌, refl, sym, ap, subst, ◌∙◌}
use mathlib.Core.Bool.{Bool, true, false, cond, not, ◌&&◌}
use mathlib.Core.Option.{some}
use mathlib.Core.List.{List}
use mathlib.Core.Logic.{⊎_elim}
use native.Mathlib.Omega.{arith}
use native.Mathlib.Nat.{eq-or-lt_of_le}
use lib.Dec.{eqb, ltb, leb}
use lib.ListN.{length, get_or, set, length-set}
use lib.Seq.{get_or-set_same, get_or-set_other}
use borrow.Author.Tests.{lt-ltb, le-ltb, ltb-true, ltb-false, le-leb, lt-leb}
use Rattle.rules.specs.declared.Node.{Node}
use Rattle.rules.specs.declared.Row.{Row}
use Rattle.rules.specs.declared.Kind.TheVariants.{Exp as an_exp}
use Rattle.rules.specs.Image.{tags, row_of, kind_of, halves, exp_of, make_by, nodes_of, node_at, tree_at, row_in, line_of, line_in}
use Rattle.rules.proofs.Trees.{exp_at, lower, tree_at-is, tree-int, tree-diff, tree-select, tree-proc}
use Rattle.rules.proofs.GoodFacts.{Good, GoodRow}
use Rattle.rules.proofs.TreeKinds.{◌&◌, tag-cases, exp-cases, is-exp}
use Rattle.treelaws.proofs.SameTables.{tree-made}
use Rattle.image.specs.Read.{NodeRead}
use Rattle.grammar.specs.Grammar.{Ending, closed}
use Rattle.writing.specs.WriteTokens.{top_of, is_difference, is_selection, is_bare, not_dotted, end_of, opens_left, opens_dot, signed, write_exp}
use Rattle.writing.proofs.SignFirst.{sign_of, sign-of}
use Rattle.writer.specs.declared.forms.How.{How}
use Rattle.writer.specs.declared.forms.How.TheVariants.{Nothing, Name, Field, Whole, Left, LeftOfDot, Right, RightOfDot, Callee, Target, Behind}
use Rattle.writer.specs.Forms.{before, asked}
use Rattle.writer.proofs.FormLaws.{has-row}
use Rattle.writer.specs.declared.ends.Edges.{Edges}
use Rattle.writer.specs.Ends.{edges, ends_of, EndsTo, Ends, asks_by, joins}

-- ---- the tag of an expression

module _ (node : ℕ → Node) (w : ℕ) (h : kind_of (node w).tag ≡ some an_exp) where
  by-tag : {k : ℕ} → (node w).tag ≡ k → tree_at node w ≡ make_by (lower node w) w (line_of k) (node w)
  by-tag e = rw (tree_at-is node w, e)

  tag-tops : (eqb (node w).tag 3 ≡ is_difference (top_of (exp_of w (tree_at node w)))) × (eqb (node w).tag 6 ≡ is_selection (top_of (exp_of w (tree_at node w))))
  unfolding make_by line_of line_in tags exp_of top_of is_difference is_selection
  tag-tops =
      exp-cases
      (λ k. (node w).tag ≡ k → (eqb (node w).tag 3 ≡ is_difference (top_of (exp_of w (tree_at node w)))) × (eqb (node w).tag 6 ≡ is_selection (top_of (exp_of w (tree_at node w)))))
      ((λ e. rw (by-tag e, e) (refl, refl)) & (λ e. rw (by-tag e, e) (refl, refl)) & (λ e. rw (by-tag e, e) (refl, refl)) & (λ e. rw (by-tag e, e) (refl, refl))
      & (λ e. rw (by-tag e, e) (refl, refl)) & (λ e. rw (by-tag e, e) (refl, refl)) & (λ e. rw (by-tag e, e) (refl, refl)) & tt)
      (node w).tag
      h
      refl

  ends-exp : ends_of (tree_at node w) ≡ edges (opens_left (exp_of w (tree_at node w))) (sign_of (exp_of w (tree_at node w)))
  unfolding ends_of exp_at
  ends-exp = ap ends_of (is-exp node w h)

  bare-is : (v : Edges) → v ≡ ends_of (tree_at node w) → v.bare ≡ opens_left (exp_of w (tree_at node w))
  bare-is v i = ap (λ (e : Edges). e.bare) (i ∙ ends-exp)

  signed_is : (f : Bool) (v : Edges) → v ≡ ends_of (tree_at node w) → (f && v.signed) ≡ signed (before f) (write_exp (exp_of w (tree_at node w)))
  unfolding signed
  signed_is true v i = ap (λ (e : Edges). e.signed) (i ∙ ends-exp) ∙ sym (sign-of (exp_of w (tree_at node w)))
  signed_is false v i = refl

  pub asks-tree : (how : How) (v : Edges) (f : Bool) → v ≡ ends_of (tree_at node w) → asks_by how (node w).tag v f ≡ asked how (exp_of w (tree_at node w)) f
  unfolding asked opens_dot opens_left not_dotted
  asks-tree Nothing v f i = refl
  asks-tree Name v f i = refl
  asks-tree Field v f i = refl
  asks-tree Whole v f i = refl
  asks-tree Left v f i = bare-is v i
  asks-tree LeftOfDot v f i = rw (tag-tops.0, bare-is v i) refl
  asks-tree Right v f i = tag-tops.0
  asks-tree RightOfDot v f i = rw (tag-tops.0, tag-tops.1) refl
  asks-tree Callee v f i = rw (bare-is v i, signed_is f v i) refl
  asks-tree Target v f i = rw (tag-tops.0, bare-is v i, signed_is f v i) refl
  asks-tree Behind v f i = refl

-- ---- a node

bare-cond : (s : Bool) (e : Ending) → is_bare (cond s closed e) ≡ (not s && is_bare e)
unfolding is_bare
bare-cond true e = refl
bare-cond false e = refl

sign-halves : (a b : ℕ) → a < 65536 → not (ltb (halves a b) 2147483648) ≡ leb 32768 b
unfolding halves
sign-halves a b l = go (ltb b 32768) refl
  where
    go : (t : Bool) → ltb b 32768 ≡ t → not (ltb (a + 65536 * b) 2147483648) ≡ leb 32768 b
    go true e = let i = ltb-true b 32768 e in rw (lt-ltb (a + 65536 * b) 2147483648 (omega arith), lt-leb 32768 b i) refl
    go false e = let i = ltb-false b 32768 e in rw (le-ltb (a + 65536 * b) 2147483648 (omega arith), le-leb 32768 b i) refl

module _ (img : List ℕ) (n : ℕ) (x : Node) (w : NodeRead img n x) where
  tag_is : {k : ℕ} → x.tag ≡ k → (node_at img n).tag ≡ k
  tag_is t = sym (ap (λ (y : Node). y.tag) w.is) ∙ t

  pub end_int : (r : Edges) → x.tag ≡ 2 → r ≡ edges false (leb 32768 x.b) → r ≡ ends_of (tree_at (node_at img) n)
  unfolding ends_of sign_of opens_left end_of is_bare
  end_int r t e =
      e ∙ (ap (edges false) (sym (sign-halves x.a x.b w.small-a)) ∙ (rw w.is refl ∙ sym (ap ends_of (tree-int (node_at img) n (tag_is t)))))

  module _ (g : Good img) (h : n < nodes_of img) where
    fits : {k : ℕ} → x.tag ≡ k → GoodRow img n (row_of k) x
    fits t = subst (λ (j : ℕ). GoodRow img n (row_of j) x) t (rw w.is (g.nodes n h))

    pub end_proc : x.tag ≡ 7 → edges true false ≡ ends_of (tree_at (node_at img) n)
    unfolding ends_of sign_of opens_left end_of is_bare row_of row_in line_of line_in tags
    end_proc t = let f = fits t in sym (ap ends_of (tree-proc (node_at img) n (tag_is t) (rw (← w.is) f.1.0)))

    abbrev NoEnd : ℕ → Type 0
    NoEnd k = (k ≡ 2 → ⊥) → (k ≡ 3 → ⊥) → (k ≡ 6 → ⊥) → (k ≡ 7 → ⊥) → edges false false ≡ ends_of (make_by (tree_at (node_at img)) n (line_of k) (node_at img n))

    no_end : (k : ℕ) (r : Row) → row_of k ≡ some r → NoEnd k
    unfolding make_by row_of row_in line_of line_in tags ends_of sign_of opens_left end_of is_bare
    no_end =
        tag-cases NoEnd
        ((λ a b c d. refl) & (λ a b c d. absurd (a refl)) & (λ a b c d. absurd (b refl)) & (λ a b c d. refl) & (λ a b c d. refl) & (λ a b c d. absurd (c refl))
        & (λ a b c d. absurd (d refl)) & (λ a b c d. refl) & (λ a b c d. refl) & (λ a b c d. refl) & (λ a b c d. refl) & (λ a b c d. refl)
        & (λ a b c d. refl) & (λ a b c d. refl) & (λ a b c d. refl) & (λ a b c d. refl) & (λ a b c d. refl) & (λ a b c d. refl)
        & (λ a b c d. refl) & (λ a b c d. refl) & (λ a b c d. refl) & (λ a b c d. refl) & tt)

    pub end_none : (x.tag ≡ 2 → ⊥) → (x.tag ≡ 3 → ⊥) → (x.tag ≡ 6 → ⊥) → (x.tag ≡ 7 → ⊥) → edges false false ≡ ends_of (tree_at (node_at img) n)
    end_none a b c d =
        let r = has-row img g n h in
        let t : x.tag ≡ (node_at img n).tag = ap (λ (y : Node). y.tag) w.is in
        no_end (node_at img n).tag r.0 r.1 (λ e. a (t ∙ e)) (λ e. b (t ∙ e)) (λ e. c (t ∙ e)) (λ e. d (t ∙ e))
        ∙ sym (ap ends_of (tree-made img g n h))

    -- the two sides of a difference or a selection
    pub side-a-3 : x.tag ≡ 3 → x.a < nodes_of img
    unfolding row_of row_in line_of line_in tags
    side-a-3 t = let f = fits t in let l = f.0.0 in omega arith

    pub side-b-3 : x.tag ≡ 3 → x.b < nodes_of img
    unfolding row_of row_in line_of line_in tags
    side-b-3 t = let f = fits t in let l = f.1.0 in omega arith

    pub side-a-6 : x.tag ≡ 6 → x.a < nodes_of img
    unfolding row_of row_in line_of line_in tags
    side-a-6 t = let f = fits t in let l = f.0.0 in omega arith

    pub side-b-6 : x.tag ≡ 6 → x.b < nodes_of img
    unfolding row_of row_in line_of line_in tags
    side-b-6 t = let f = fits t in let l = f.1.0 in omega arith

    module _ (ends : List Edges) (u : EndsTo img n ends) where
      abbrev joined : How → How → Edges
      joined left right =
          joins (asks_by left (node_at img x.a).tag (get_or ends x.a (edges false false)) false) (get_or ends x.a (edges false false))
          (asks_by right (node_at img x.b).tag (get_or ends x.b (edges false false)) false) (get_or ends x.b (edges false false))

      -- of two children, whatever is asked of them
      joined_is : (left right : How) → x.a < n → x.b < n → kind_of (node_at img x.a).tag ≡ some an_exp → kind_of (node_at img x.b).tag ≡ some an_exp
          → joined left right
          ≡ edges (not (asked right (exp_at (node_at img) x.b) false) && opens_left (exp_at (node_at img) x.b))
          (not (asked left (exp_at (node_at img) x.a) false) && sign_of (exp_at (node_at img) x.a))
      unfolding exp_at
      joined_is left right la lb ka kb =
          rw (
            asks-tree (node_at img) x.a ka left (get_or ends x.a (edges false false)) false (u.is x.a la),
            asks-tree (node_at img) x.b kb right (get_or ends x.b (edges false false)) false (u.is x.b lb),
            u.is x.a la ∙ ends-exp (node_at img) x.a ka,
            u.is x.b lb ∙ ends-exp (node_at img) x.b kb,
          )
          refl

      pub end_diff : (r : Edges) → x.tag ≡ 3 → r ≡ joined Left Right → r ≡ ends_of (tree_at (node_at img) n)
      unfolding row_of row_in line_of line_in tags ends_of sign_of opens_left end_of asked
      end_diff r t e =
          let f = fits t in
          let b = exp_at (node_at img) x.b in
          e ∙ (joined_is Left Right f.0.0 f.1.0 f.0.1 f.1.1
          ∙ (rw (← bare-cond (is_difference (top_of b)) (end_of b)) (rw w.is refl)
          ∙ sym (ap ends_of (tree-diff (node_at img) n (tag_is t) (rw (← w.is) f.0.0) (rw (← w.is) f.1.0)))))

      pub end_select : (r : Edges) → x.tag ≡ 6 → r ≡ joined LeftOfDot RightOfDot → r ≡ ends_of (tree_at (node_at img) n)
      unfolding row_of row_in line_of line_in tags ends_of sign_of opens_left end_of asked
      end_select r t e =
          let f = fits t in
          let b = exp_at (node_at img) x.b in
          e ∙ (joined_is LeftOfDot RightOfDot f.0.0 f.1.0 f.0.1 f.1.1
          ∙ (rw (← bare-cond (not_dotted (top_of b)) (end_of b)) (rw w.is refl)
          ∙ sym (ap ends_of (tree-select (node_at img) n (tag_is t) (rw (← w.is) f.0.0) (rw (← w.is) f.1.0)))))

-- ---- one more node

pub ends_none : (img : List ℕ) (ends : List Edges) → nodes_of img ≤ length ends → EndsTo img 0 ends
ends_none img ends l = record { long = l; is = λ k h. absurd (omega arith) }

pub ends_more : (img : List ℕ) (ends : List Edges) (n : ℕ) (v : Edges) → EndsTo img n ends → n < nodes_of img → v ≡ ends_of (tree_at (node_at img) n) → EndsTo img (n + 1) (set ends n v)
ends_more img ends n v u h e =
    record {
      long = rw (length-set ends n v) u.long;
      is = λ k l.
          ⊎_elim
          (λ (i : k ≡ n). rw i (get_or-set_same ends n v (edges false false) (omega (arith, u.long)) ∙ e))
          (λ (i : k < n). get_or-set_other ends n k v (edges false false) (λ j. omega arith) ∙ u.is k i)
          (eq-or-lt_of_le {n = k} {m = n} (omega arith));
    }

pub ends_all : (img : List ℕ) (ends : List Edges) (n m : ℕ) → EndsTo img n ends → m ≡ nodes_of img → m ≤ n → Ends img ends
ends_all img ends n m u i h = record { long = u.long; is = λ k l. u.is k (omega arith) }

pub ruleset node_ends = (end_int, end_diff, end_select, end_proc, end_none, side-a-3, side-b-3, side-a-6, side-b-6)
