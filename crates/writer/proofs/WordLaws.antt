-- The words of a node: each is what its form asks for, and the children among them fall. Assumes nothing.
use Prim.Native.Nat.{ℕ, ◌+◌, ◌*◌, ◌<◌}
use mathlib.Core.Path.{◌≡◌, refl}
use mathlib.Core.Bool.{Bool, false}
use mathlib.Core.Option.{some}
use mathlib.Core.List.{List, [], ◌∷◌}
use native.Mathlib.Omega.{arith}
use lib.ListN.{get_or}
use types.Run.{OneOf, miss}
use denote.Enum.Declared.{tag_of}
use Rattle.rules.specs.declared.Node.{Node}
use Rattle.rules.specs.declared.Row.{Row}
use Rattle.rules.specs.Image.{Tree, tags, row_of, exp_of, nodes_of, node_at, tree_at, row_in, line_of, line_in}
use Rattle.rules.proofs.GoodFacts.{Good, GoodRow}
use Rattle.rules.proofs.TreeKinds.{◌&◌, tag-cases}
use Rattle.image.specs.Read.{NodeRead}
use Rattle.writer.specs.declared.forms.How.{How}
use Rattle.writer.specs.declared.forms.How.TheVariants.{Nothing, Name, Field, Whole, Left, LeftOfDot, Right, RightOfDot, Callee, Target, Behind}
use Rattle.writer.specs.declared.forms.Form.{Form}
use Rattle.writer.specs.Forms.{forms, form_in, form_of, asked, child, word_tokens}
use Rattle.writer.specs.declared.ends.Edges.{Edges}
use Rattle.writer.specs.Ends.{edges, Ends, asks_by}
use Rattle.writer.specs.Walk.{WordFits, ChildFits, word_weight}
use Rattle.writer.proofs.FormLaws.{has-row}
use Rattle.writer.proofs.EndLaws.{asks-tree}
use Rattle.writer.specs.contracts.forms.How.{the_type}

module _ (img : List ℕ) (n : ℕ) (h : n < nodes_of img) where
  abbrev Fitting : How → ℕ → Type 0
  Fitting how w = WordFits img how w × (word_weight how w < 3 * n + 1)

  abbrev RowFitting : ℕ → Type 0
  RowFitting k = (x : Node) → GoodRow img n (row_of k) x → Fitting (form_of k).a x.a × Fitting (form_of k).b x.b × Fitting (form_of k).c x.c

  row-fitting : (k : ℕ) (r : Row) → row_of k ≡ some r → RowFitting k
  unfolding row_of row_in line_of line_in tags forms form_in form_of
  row-fitting =
      tag-cases RowFitting
      ((λ x f. ((f.0, omega arith), (tt, omega arith), (tt, omega arith)))
      & (λ x f. ((tt, omega arith), (tt, omega arith), (tt, omega arith)))
      & (λ x f. (((let l = f.0.0 in omega arith, f.0.1), let l = f.0.0 in omega arith), ((let l = f.1.0 in omega arith, f.1.1), let l = f.1.0 in omega arith), (tt, omega arith)))
      & (λ x f. ((tt, omega arith), (tt, omega arith), (tt, omega arith)))
      & (λ x f. ((f.0, omega arith), (tt, omega arith), (tt, omega arith)))
      & (λ x f. (((let l = f.0.0 in omega arith, f.0.1), let l = f.0.0 in omega arith), ((let l = f.1.0 in omega arith, f.1.1), let l = f.1.0 in omega arith), (tt, omega arith)))
      & (λ x f. ((f.0, omega arith), (let l = f.1.0 in omega arith, let l = f.1.0 in omega arith), (tt, omega arith)))
      & (λ x f. ((tt, omega arith), (tt, omega arith), (tt, omega arith)))
      & (λ x f. ((tt, omega arith), (tt, omega arith), (tt, omega arith)))
      & (λ x f. (((let l = f.0.0 in omega arith, f.0.1), let l = f.0.0 in omega arith), (let l = f.1.0 in omega arith, let l = f.1.0 in omega arith), (tt, omega arith)))
      & (λ x f. (((let l = f.0.0 in omega arith, f.0.1), let l = f.0.0 in omega arith), (let l = f.1.0 in omega arith, let l = f.1.0 in omega arith), (tt, omega arith)))
      & (λ x f. ((f.0, omega arith), (let l = f.1.0 in omega arith, let l = f.1.0 in omega arith), (tt, omega arith)))
      & (λ x f. (((let l = f.0.0 in omega arith, f.0.1), let l = f.0.0 in omega arith), (let l = f.1.0 in omega arith, let l = f.1.0 in omega arith), (tt, omega arith)))
      & (λ x f. ((f.0, omega arith), (tt, omega arith), (tt, omega arith)))
      & (λ x f. ((f.0, omega arith), (let l = f.1.0 in omega arith, let l = f.1.0 in omega arith), (tt, omega arith)))
      & (λ x f. (((let l = f.0.0 in omega arith, f.0.1), let l = f.0.0 in omega arith), ((let l = f.1.0 in omega arith, f.1.1), let l = f.1.0 in omega arith), (let l = f.2.0 in omega arith, let l = f.2.0 in omega arith)))
      & (λ x f. ((tt, omega arith), (tt, omega arith), (tt, omega arith)))
      & (λ x f. ((let l = f.0.0 in omega arith, let l = f.0.0 in omega arith), (let l = f.1.0 in omega arith, let l = f.1.0 in omega arith), (tt, omega arith)))
      & (λ x f. ((let l = f.0.0 in omega arith, let l = f.0.0 in omega arith), (let l = f.1.0 in omega arith, let l = f.1.0 in omega arith), (tt, omega arith)))
      & (λ x f. ((let l = f.0.0 in omega arith, let l = f.0.0 in omega arith), (let l = f.1.0 in omega arith, let l = f.1.0 in omega arith), (let l = f.2.0 in omega arith, let l = f.2.0 in omega arith)))
      & (λ x f. ((let l = f.0.0 in omega arith, let l = f.0.0 in omega arith), (let l = f.1.0 in omega arith, let l = f.1.0 in omega arith), (tt, omega arith)))
      & (λ x f. ((let l = f.0.0 in omega arith, let l = f.0.0 in omega arith), (tt, omega arith), (tt, omega arith)))
      & tt)

  module _ (g : Good img) (x : Node) (w : NodeRead img n x) (k : Form) (e : k ≡ form_of x.tag) where
    fitting : Fitting k.a x.a × Fitting k.b x.b × Fitting k.c x.c
    fitting =
        let r = has-row img g n h in
        rw (e, w.is) (row-fitting (node_at img n).tag r.0 r.1 (node_at img n) (g.nodes n h))

    pub word_a : WordFits img k.a x.a
    word_a = fitting.0.0

    pub word_b : WordFits img k.b x.b
    word_b = fitting.1.0

    pub word_c : WordFits img k.c x.c
    word_c = fitting.2.0

    pub falls_a : {t : ℕ} → 3 * n + 1 ≡ t → word_weight k.a x.a < t
    falls_a i = rw (← i) fitting.0.1

    pub falls_b : {t : ℕ} → 3 * n + 1 ≡ t → word_weight k.b x.b < t
    falls_b i = rw (← i) fitting.1.1

    pub falls_c : {t : ℕ} → 3 * n + 1 ≡ t → word_weight k.c x.c < t
    falls_c i = rw (← i) fitting.2.1

-- ---- words that are children

pub as-child : (at : ℕ → Tree) (how : How) (w : ℕ) (f : Bool) → OneOf (3 ∷ 4 ∷ 5 ∷ 6 ∷ 7 ∷ 8 ∷ 9 ∷ 10 ∷ []) (tag_of the_type how) → child at how w f ≡ word_tokens at how w f
unfolding word_tokens
as-child at Nothing w f o = absurd (miss (3 ∷ 4 ∷ 5 ∷ 6 ∷ 7 ∷ 8 ∷ 9 ∷ 10 ∷ []) 0 tt o)
as-child at Name w f o = absurd (miss (3 ∷ 4 ∷ 5 ∷ 6 ∷ 7 ∷ 8 ∷ 9 ∷ 10 ∷ []) 1 tt o)
as-child at Field w f o = absurd (miss (3 ∷ 4 ∷ 5 ∷ 6 ∷ 7 ∷ 8 ∷ 9 ∷ 10 ∷ []) 2 tt o)
as-child at Whole w f o = refl
as-child at Left w f o = refl
as-child at LeftOfDot w f o = refl
as-child at Right w f o = refl
as-child at RightOfDot w f o = refl
as-child at Callee w f o = refl
as-child at Target w f o = refl
as-child at Behind w f o = refl

module _ (img : List ℕ) where
  pub child_fits : (how : How) (w : ℕ) → OneOf (3 ∷ 4 ∷ 5 ∷ 6 ∷ 7 ∷ 8 ∷ 9 ∷ 10 ∷ []) (tag_of the_type how) → WordFits img how w → ChildFits img how w
  child_fits Nothing w o f = absurd (miss (3 ∷ 4 ∷ 5 ∷ 6 ∷ 7 ∷ 8 ∷ 9 ∷ 10 ∷ []) 0 tt o)
  child_fits Name w o f = absurd (miss (3 ∷ 4 ∷ 5 ∷ 6 ∷ 7 ∷ 8 ∷ 9 ∷ 10 ∷ []) 1 tt o)
  child_fits Field w o f = absurd (miss (3 ∷ 4 ∷ 5 ∷ 6 ∷ 7 ∷ 8 ∷ 9 ∷ 10 ∷ []) 2 tt o)
  child_fits Whole w o f = f
  child_fits Left w o f = f
  child_fits LeftOfDot w o f = f
  child_fits Right w o f = f
  child_fits RightOfDot w o f = f
  child_fits Callee w o f = f
  child_fits Target w o f = f
  child_fits Behind w o f = f

  pub child_node : (how : How) (w : ℕ) → ChildFits img how w → w < nodes_of img
  child_node Nothing w f = f
  child_node Name w f = f
  child_node Field w f = f
  child_node Whole w f = f
  child_node Left w f = f.0
  child_node LeftOfDot w f = f.0
  child_node Right w f = f.0
  child_node RightOfDot w f = f.0
  child_node Callee w f = f.0
  child_node Target w f = f.0
  child_node Behind w f = f

  pub asks-any : (ends : List Edges) (how : How) (w : ℕ) (f : Bool) → Ends img ends → ChildFits img how w
      → asks_by how (node_at img w).tag (get_or ends w (edges false false)) f ≡ asked how (exp_of w (tree_at (node_at img) w)) f
  unfolding asked
  asks-any ends Nothing w f u c = refl
  asks-any ends Name w f u c = refl
  asks-any ends Field w f u c = refl
  asks-any ends Whole w f u c = refl
  asks-any ends Left w f u c = asks-tree (node_at img) w c.1 Left (get_or ends w (edges false false)) f (u.is w c.0)
  asks-any ends LeftOfDot w f u c = asks-tree (node_at img) w c.1 LeftOfDot (get_or ends w (edges false false)) f (u.is w c.0)
  asks-any ends Right w f u c = asks-tree (node_at img) w c.1 Right (get_or ends w (edges false false)) f (u.is w c.0)
  asks-any ends RightOfDot w f u c = asks-tree (node_at img) w c.1 RightOfDot (get_or ends w (edges false false)) f (u.is w c.0)
  asks-any ends Callee w f u c = asks-tree (node_at img) w c.1 Callee (get_or ends w (edges false false)) f (u.is w c.0)
  asks-any ends Target w f u c = asks-tree (node_at img) w c.1 Target (get_or ends w (edges false false)) f (u.is w c.0)
  asks-any ends Behind w f u c = refl

pub child_falls : (how : How) (w t : ℕ) → OneOf (3 ∷ 4 ∷ 5 ∷ 6 ∷ 7 ∷ 8 ∷ 9 ∷ 10 ∷ []) (tag_of the_type how) → word_weight how w ≡ t → 3 * w + 2 < t
child_falls Nothing w t o e = absurd (miss (3 ∷ 4 ∷ 5 ∷ 6 ∷ 7 ∷ 8 ∷ 9 ∷ 10 ∷ []) 0 tt o)
child_falls Name w t o e = absurd (miss (3 ∷ 4 ∷ 5 ∷ 6 ∷ 7 ∷ 8 ∷ 9 ∷ 10 ∷ []) 1 tt o)
child_falls Field w t o e = absurd (miss (3 ∷ 4 ∷ 5 ∷ 6 ∷ 7 ∷ 8 ∷ 9 ∷ 10 ∷ []) 2 tt o)
child_falls Whole w t o e = omega arith
child_falls Left w t o e = omega arith
child_falls LeftOfDot w t o e = omega arith
child_falls Right w t o e = omega arith
child_falls RightOfDot w t o e = omega arith
child_falls Callee w t o e = omega arith
child_falls Target w t o e = omega arith
child_falls Behind w t o e = omega arith
