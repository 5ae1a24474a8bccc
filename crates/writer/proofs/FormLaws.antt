-- The table of forms writes what the definitions write, tag by tag. Assumes nothing.
use Prim.Native.Nat.{ℕ, ◌<◌}
use mathlib.Core.Path.{◌≡◌, refl, sym, ap, ◌∙◌}
use mathlib.Core.Bool.{Bool, false}
use mathlib.Core.Option.{Option, none, some}
use mathlib.Core.List.{List, [], ◌∷◌, ◌++◌, append_assoc, append-nil}
use Rattle.std.specs.Prelude.{None}
use Rattle.rules.specs.declared.Node.{Node}
use Rattle.rules.specs.declared.Row.{Row}
use Rattle.rules.specs.declared.Kind.TheVariants.{Exp as an_exp, Test as a_test, Cmd as a_cmd}
use Rattle.rules.specs.Image.{Tree, tags, row_of, kind_of, halves, exp_of, test_of, cmd_of, make_by, nodes_of, node_at, tree_at, cmd_at, row_in, line_of, line_in}
use Rattle.rules.proofs.Trees.{exp_at, test_at, tree-int}
use Rattle.rules.proofs.GoodFacts.{Good, GoodRow}
use Rattle.rules.proofs.TreeKinds.{◌&◌, tag-cases, is-exp, is-test, is-cmd}
use Rattle.treelaws.proofs.SameTables.{tree-made}
use Rattle.grammar.specs.Grammar.{Ended, an_operand, no_operand}
use Rattle.writing.specs.WriteTokens.{grouped, write_int, write_exp, write_test, write_behind, ended_by}
use Rattle.pen.specs.Behind.{mark_of}
use borrow.Author.Tests.{ne_eqb}
use Rattle.writer.specs.declared.forms.How.TheVariants.{Nothing}
use Rattle.writer.specs.declared.forms.Form.{Form}
use Rattle.writer.specs.Forms.{FormLine, line, shaped, forms, form_in, form_of, before, write_tree, operand_ends, test_ends, asked, passed, child, word_tokens, form_tokens, test_before}

-- ---- a child of a kind

module _ (node : ℕ → Node) (w : ℕ) where
  exp-tokens : kind_of (node w).tag ≡ some an_exp → (f : Bool) → write_tree (tree_at node w) f ≡ write_exp (exp_of w (tree_at node w))
  unfolding write_tree exp_at
  exp-tokens h f = ap (λ t. write_tree t f) (is-exp node w h)

  test-tokens : kind_of (node w).tag ≡ some a_test → (f : Bool) → write_tree (tree_at node w) f ≡ write_test (test_of w (tree_at node w))
  unfolding write_tree test_at
  test-tokens h f = ap (λ t. write_tree t f) (is-test node w h)

  pub cmd-tokens : kind_of (node w).tag ≡ some a_cmd → (f : Bool) → write_tree (tree_at node w) f ≡ write_behind (cmd_of w (tree_at node w)) (before f)
  unfolding write_tree cmd_at
  cmd-tokens h f = ap (λ t. write_tree t f) (is-cmd node w h)

  test-ends : kind_of (node w).tag ≡ some a_test → before (test_ends (tree_at node w)) ≡ ended_by (test_of w (tree_at node w))
  unfolding test_ends test_at operand_ends
  test-ends h = ap (λ t. before (test_ends t)) (is-test node w h) ∙ go (ended_by (test_at node w))
    where
      go : (e : Ended) → before (operand_ends e) ≡ e
      go an_operand = refl
      go no_operand = refl

-- ---- in a row

module _ (at : ℕ → Tree) (k : Form) (x : Node) (f g : Bool) where
  row-full : form_tokens at k x f g
      ≡ mark_of k.first ++ (mark_of k.second ++ (word_tokens at k.a x.a f ++ (mark_of k.third ++ (word_tokens at k.b x.b g ++ (mark_of k.fourth
      ++ (word_tokens at k.c x.c false ++ mark_of k.last))))))
  unfolding form_tokens
  row-full = simp append_assoc

  row-three : k.last ≡ None → form_tokens at k x f g
      ≡ mark_of k.first ++ (mark_of k.second ++ (word_tokens at k.a x.a f ++ (mark_of k.third ++ (word_tokens at k.b x.b g ++ (mark_of k.fourth
      ++ word_tokens at k.c x.c false)))))
  unfolding mark_of
  row-three e = row-full ∙ rw (e, append-nil (word_tokens at k.c x.c false))

  row-two : k.fourth ≡ None → k.c ≡ Nothing → k.last ≡ None → form_tokens at k x f g
      ≡ mark_of k.first ++ (mark_of k.second ++ (word_tokens at k.a x.a f ++ (mark_of k.third ++ word_tokens at k.b x.b g)))
  unfolding mark_of word_tokens
  row-two i j e = row-three e ∙ rw (i, j, append-nil (word_tokens at k.b x.b g))

-- ---- the table

module _ (img : List ℕ) where
  abbrev node : ℕ → Node
  node = node_at img

  abbrev at : ℕ → Tree
  at = tree_at (node_at img)

  -- an integer has no form
  abbrev Formed : ℕ → Type 0
  Formed k =
      (n : ℕ) (x : Node) (f : Bool) → (k ≡ 2 → ⊥) → GoodRow img n (row_of k) x
      → form_tokens at (form_of k) x f (test_before at k x.a) ≡ write_tree (make_by at n (line_of k) x) f

  formed : (k : ℕ) (r : Row) → row_of k ≡ some r → Formed k
  unfolding make_by row_of row_in line_of line_in tags forms form_in form_of form_tokens word_tokens child asked passed test_before write_tree mark_of write_exp write_test write_behind grouped
  formed =
      tag-cases
      Formed
      ((λ n x f h g. refl)
      & (λ n x f h g. absurd (h refl))
      & (λ n x f h g. row-two at (form_of 3) x f (test_before at 3 x.a) refl refl refl ∙ rw (exp-tokens node x.a g.0.1 false, exp-tokens node x.b g.1.1 false))
      & (λ n x f h g. refl)
      & (λ n x f h g. refl)
      & (λ n x f h g. row-two at (form_of 6) x f (test_before at 6 x.a) refl refl refl ∙ rw (exp-tokens node x.a g.0.1 false, exp-tokens node x.b g.1.1 false))
      & (λ n x f h g. row-two at (form_of 7) x f (test_before at 7 x.a) refl refl refl ∙ rw (cmd-tokens node x.b g.1.1 false))
      & (λ n x f h g. refl)
      & (λ n x f h g. refl)
      & (λ n x f h g. row-two at (form_of 18) x f (test_before at 18 x.a) refl refl refl ∙ rw (exp-tokens node x.a g.0.1 false, exp-tokens node x.b g.1.1 false))
      & (λ n x f h g. row-two at (form_of 19) x f (test_before at 19 x.a) refl refl refl ∙ rw (exp-tokens node x.a g.0.1 false, exp-tokens node x.b g.1.1 false))
      & (λ n x f h g. row-two at (form_of 32) x f (test_before at 32 x.a) refl refl refl ∙ rw (cmd-tokens node x.b g.1.1 false))
      & (λ n x f h g. row-full at (form_of 33) x f (test_before at 33 x.a) ∙ rw (exp-tokens node x.a g.0.1 false, exp-tokens node x.b g.1.1 false))
      & (λ n x f h g. refl)
      & (λ n x f h g. row-two at (form_of 35) x f (test_before at 35 x.a) refl refl refl ∙ rw (exp-tokens node x.b g.1.1 false))
      & (λ n x f h g. row-three at (form_of 36) x f (test_before at 36 x.a) refl ∙ rw (exp-tokens node x.a g.0.1 false, exp-tokens node x.b g.1.1 false, exp-tokens node x.c g.2.1 false))
      & (λ n x f h g. refl)
      & (λ n x f h g. row-full at (form_of 38) x f (test_before at 38 x.a) ∙ rw (cmd-tokens node x.a g.0.1 false, cmd-tokens node x.b g.1.1 false))
      & (λ n x f h g. row-two at (form_of 39) x f (test_before at 39 x.a) refl refl refl ∙ rw (test-tokens node x.a g.0.1 false, cmd-tokens node x.b g.1.1 (test_ends (at x.a)), test-ends node x.a g.0.1))
      & (λ n x f h g. row-three at (form_of 40) x f (test_before at 40 x.a) refl ∙ rw (test-tokens node x.a g.0.1 false, cmd-tokens node x.b g.1.1 (test_ends (at x.a)), test-ends node x.a g.0.1, cmd-tokens node x.c g.2.1 false))
      & (λ n x f h g. row-full at (form_of 41) x f (test_before at 41 x.a) ∙ rw (cmd-tokens node x.a g.0.1 false, cmd-tokens node x.b g.1.1 false))
      & (λ n x f h g. row-full at (form_of 42) x f (test_before at 42 x.a) ∙ rw (cmd-tokens node x.a g.0.1 false))
      & tt)

  module _ (g : Good img) (n : ℕ) (h : n < nodes_of img) where
    pub has-row : (r : Row) × (row_of (node_at img n).tag ≡ some r)
    has-row = go (row_of (node_at img n).tag) refl (g.nodes n h)
      where
        go : (o : Option Row) → row_of (node_at img n).tag ≡ o → GoodRow img n o (node_at img n) → (r : Row) × (row_of (node_at img n).tag ≡ some r)
        go none e f = absurd f
        go (some r) e f = (r, e)

    pub tokens-formed : (f : Bool) → ((node_at img n).tag ≡ 2 → ⊥)
        → form_tokens at (form_of (node_at img n).tag) (node_at img n) f (test_before at (node_at img n).tag (node_at img n).a) ≡ write_tree (tree_at (node_at img) n) f
    tokens-formed f i =
        let r = has-row in
        formed (node_at img n).tag r.0 r.1 n (node_at img n) f i (g.nodes n h) ∙ ap (λ t. write_tree t f) (sym (tree-made img g n h))

  pub tokens-int : (n : ℕ) (f : Bool) → (node_at img n).tag ≡ 2 → write_int (halves (node_at img n).a (node_at img n).b) ≡ write_tree (tree_at (node_at img) n) f
  unfolding write_tree write_exp
  tokens-int n f e = sym (ap (λ t. write_tree t f) (tree-int (node_at img) n e))

-- ---- a tag that is in no line of the table

abbrev pub Absent : ℕ → List FormLine → Type 0
Absent k [] = Unit {0}
Absent k (line j r ∷ rest) = (k ≡ j → ⊥) × Absent k rest

absent-in : (k : ℕ) (l : List FormLine) → Absent k l → form_in k l ≡ shaped 0 0 Nothing 0 Nothing 0 Nothing 0
unfolding form_in
absent-in k [] h = refl
absent-in k (line j r ∷ rest) h = rw (ne_eqb k j h.0) (absent-in k rest h.1)

pub absent : (k : ℕ) → Absent k forms → shaped 0 0 Nothing 0 Nothing 0 Nothing 0 ≡ form_of k
unfolding form_of
absent k h = sym (absent-in k forms h)
