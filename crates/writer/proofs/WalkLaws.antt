-- The way through the nodes, path by path, in the shape of what the code knows. Assumes nothing.
use Prim.Native.Nat.{ℕ, ◌<◌, ◌≤◌}
use mathlib.Core.Path.{◌≡◌, refl, sym, ap, ◌∙◌}
use mathlib.Core.Bool.{Bool, true, false}
use mathlib.Core.List.{List, [], ◌∷◌}
use native.Mathlib.Omega.{arith}
use lib.ListN.{length, get_or}
use types.Run.{OneOf}
use denote.Enum.Declared.{tag_of}
use Rattle.std.specs.Prelude.{Some}
use Rattle.rules.specs.declared.Node.{Node}
use Rattle.rules.specs.Image.{halves, exp_of, nodes_of, names_of, fields_of, node_at, tree_at}
use Rattle.rules.proofs.GoodFacts.{Good}
use Rattle.image.specs.Read.{NodeRead}
use Rattle.grammar.specs.Tokens.{name, kind_of as kind_of_tok}
use Rattle.writing.specs.WriteTokens.{grouped}
use Rattle.writing.specs.Spell.{bytes_for, made_up}
use Rattle.pen.specs.Behind.{mark_of}
use Rattle.pen.specs.Draws.{Token, Writes, Marks}
use Rattle.pen.specs.declared.Pen.{Pen}
use Rattle.pen.proofs.DrawLaws.{token-writes, writes-none, writes_as, writes_then}
use Rattle.writer.specs.declared.forms.How.{How}
use Rattle.writer.specs.declared.forms.How.TheVariants.{Nothing, Name, Field}
use Rattle.writer.specs.declared.forms.Form.{Form}
use Rattle.writer.specs.Forms.{form_of, write_tree, asked, passed, child, word_tokens, form_tokens, test_before}
use Rattle.writer.specs.declared.ends.Edges.{Edges}
use Rattle.writer.specs.Ends.{edges, Ends, asks_by}
use Rattle.writer.specs.Walk.{WritesInt, WritesField, names_for, WritesNode, WritesChild, WritesWord, WordFits, ChildFits}
use Rattle.writer.proofs.FormLaws.{tokens-formed, tokens-int}
use Rattle.writer.specs.contracts.forms.How.{the_type}
use Rattle.writer.proofs.TokenLaws.{up_to-get}
use Rattle.writer.proofs.WordLaws.{word_a, word_b, word_c, falls_a, falls_b, falls_c, as-child, child_fits, child_node, asks-any, child_falls}

module _ (img : List ℕ) (words : List (List ℕ)) where
  abbrev names : List (List ℕ)
  names = names_for img

  module _ (n : ℕ) (f : Bool) (x : Node) (w : NodeRead img n x) (p : Pen) where
    pub node_int : (r : Pen) → x.tag ≡ 2 → WritesInt (halves x.a x.b) p r → WritesNode img words n f p r
    node_int r t v =
        let i : (node_at img n).tag ≡ 2 = sym (ap (λ (y : Node). y.tag) w.is) ∙ t in
        let u = v.says names words in
        record { says = writes_as names words (rw w.is at u) (tokens-int img n f i) }

    pub node_formed : (g : Good img) (h : n < nodes_of img) (k : Form) (b : Bool) (p1 p2 p3 p4 p5 p6 p7 p8 : Pen)
        → (x.tag ≡ 2 → ⊥) → k ≡ form_of x.tag → b ≡ test_before (tree_at (node_at img)) x.tag x.a
        → Marks k.first p p1
        → Marks k.second p1 p2
        → WritesWord img words k.a x.a f p2 p3
        → Marks k.third p3 p4
        → WritesWord img words k.b x.b b p4 p5
        → Marks k.fourth p5 p6
        → WritesWord img words k.c x.c false p6 p7
        → Marks k.last p7 p8
        → WritesNode img words n f p p8
    unfolding form_tokens
    node_formed g h k b p1 p2 p3 p4 p5 p6 p7 p8 t i j a1 a2 a3 a4 a5 a6 a7 a8 =
        let at = tree_at (node_at img) in
        let o : (node_at img n).tag ≡ 2 → ⊥ = λ z. t (ap (λ (y : Node). y.tag) w.is ∙ z) in
        let v : Writes names words (form_tokens at k x f b) p p8 =
        writes_then names words (writes_then names words (writes_then names words (writes_then names words
        (writes_then names words (writes_then names words (writes_then names words
        (a1.says names words) (a2.says names words)) a3.says) (a4.says names words)) a5.says) (a6.says names words)) a7.says) (a8.says names words) in
        let s : form_tokens at k x f b ≡ write_tree (tree_at (node_at img) n) f = rw (i, j, w.is) (tokens-formed img g n h f o) in
        record { says = writes_as names words v s }

  -- ---- a word

  module _ (how : How) (w : ℕ) (f : Bool) (p : Pen) where
    pub word_nothing : how ≡ Nothing → WritesWord img words how w f p p
    unfolding word_tokens
    word_nothing e = record { says = writes_as names words (writes-none names words p) (rw e refl) }

    pub word_name : (r : Pen) → how ≡ Name → WordFits img how w → Token 1 (made_up w) p r → WritesWord img words how w f p r
    unfolding word_tokens kind_of_tok bytes_for
    word_name r i h t =
        let l : w < names_of img = rw i at h in
        record {
          says =
              writes_as names words
              (token-writes names words (name w) t refl (up_to-get made_up (names_of img) w l))
              (rw i refl);
        }

    pub word_field : (r : Pen) → how ≡ Field → WritesField words w p r → WritesWord img words how w f p r
    unfolding word_tokens
    word_field r i t = record { says = writes_as names words (t.says names) (rw i refl) }

    pub word_child : (r : Pen) → OneOf (3 ∷ 4 ∷ 5 ∷ 6 ∷ 7 ∷ 8 ∷ 9 ∷ 10 ∷ []) (tag_of the_type how) → WritesChild img words how w f p r
        → WritesWord img words how w f p r
    word_child r o v = record { says = writes_as names words v.says (as-child (tree_at (node_at img)) how w f o) }

    -- ---- a child

    module _ (ends : List Edges) (u : Ends img ends) (c : ChildFits img how w) (t : ℕ) (v : t ≡ (node_at img w).tag) (a g : Bool) (i : a ≡ asks_by how t (get_or ends w (edges false false)) f) (j : g ≡ passed how f) where
      asked_is : a ≡ asked how (exp_of w (tree_at (node_at img) w)) f
      asked_is = i ∙ (rw v (asks-any img ends how w f u c))

      pub child_grouped : (q r s : Pen) → a ≡ true → Marks (Some 17) p q → WritesNode img words w g q r → Marks (Some 18) r s
          → WritesChild img words how w f p s
      unfolding child grouped mark_of
      child_grouped q r s t m n z =
          let k : asked how (exp_of w (tree_at (node_at img) w)) f ≡ true = sym asked_is ∙ t in
          record {
            says =
                writes_as names words
                (writes_then names words (writes_then names words (m.says names words) n.says) (z.says names words))
                (rw (k, j) refl);
          }

      pub child_plain : (r : Pen) → a ≡ false → WritesNode img words w g p r → WritesChild img words how w f p r
      unfolding child grouped
      child_plain r t n =
          let k : asked how (exp_of w (tree_at (node_at img) w)) f ≡ false = sym asked_is ∙ t in
          record { says = writes_as names words n.says (rw (k, j) refl) }

pub child_marked : (img : List ℕ) (ends : List Edges) (how : How) (w : ℕ) → Ends img ends → ChildFits img how w → w < length ends
child_marked img ends how w u c = let l = child_node img how w c in omega (arith, u.long)

pub field_low : (img : List ℕ) (how : How) (w : ℕ) → how ≡ Field → WordFits img how w → 1 ≤ w
field_low img how w e f = let h : WordFits img Field w = rw e at f in h.0

pub field_high : (img : List ℕ) (how : How) (w : ℕ) → how ≡ Field → WordFits img how w → w ≤ fields_of img
field_high img how w e f = let h : WordFits img Field w = rw e at f in h.1

pub ruleset ways =
    (word_a, word_b, word_c, falls_a, falls_b, falls_c, node_int, node_formed, word_nothing, word_name, word_field, word_child, child_grouped, child_plain, child_fits, child_node, child_marked, child_falls, field_low, field_high)
