-- Old images as text: the text of a published image's tree is read as an image with the same codes and the same tree, its nodes children first, its names
-- by first appearance and as many as appear. Assumes nothing.
use Prim.Native.Nat.{ℕ, ◌≤◌}
use mathlib.Core.Path.{◌≡◌, sym, ap, subst, ◌∙◌}
use mathlib.Core.List.{List, map}
use native.Mathlib.Omega.{arith}
use lib.ListN.{length, length-map}
use Rattle.laws.specs.UpTo.{length-up_to, up_to-of, same-elems}
use Rattle.rules.specs.Image.{most_nodes, most_names, fields_of, code_at, names_of}
use Rattle.rules.specs.Scope.{Names}
use Rattle.rules.specs.Published.{Published}
use Rattle.rules.proofs.Table.{ImageReads, reads}
use Rattle.rules.proofs.Written.{Written, the-tree, published-written}
use Rattle.grammar.specs.FieldList.{Entry, code_of, Different, Listed}
use Rattle.grammar.specs.Nodes.{size_cmd}
use Rattle.grammar.specs.Reads.{Lent, Reads}
use Rattle.grammar.specs.Proper.{ProperCmd, Field, Name}
use Rattle.writing.specs.WriteTokens.{write_cmd}
use Rattle.writing.specs.Spell.{VariableName, Each}
use Rattle.writing.specs.Renumber.{names_written}
use Rattle.writing.specs.Back.{tree_of, codes_of, text_of, image_of}
use Rattle.writing.proofs.TreeSpells.{tree-spells}
use Rattle.writing.proofs.NamesBelow.{few-appearing}
use Rattle.writing.proofs.ImageTree.{wrote-proper, wrote-size}
use Rattle.writing.proofs.ReadsBack.{reads-image}

module _ {visible : Names} (img : List ℕ) (p : Written visible img) where
  -- the tree can be written, with the image's fields and at least its names
  tree-proper : (N : ℕ) → p.names ≤ N → ProperCmd (Field (length p.codes)) (Name N) p.root
  tree-proper N enough = wrote-proper p.nodes (length p.codes) p.names (Name N) (λ x l. omega arith) p.root p.wrote

  -- no more nodes and no more names than the image's
  few-nodes : size_cmd p.root ≤ most_nodes
  few-nodes = omega (arith, wrote-size p.nodes (length p.codes) p.names p.root p.wrote p.once, p.few-nodes)

  few-names : length (names_written p.root) ≤ most_names
  unfolding names_written
  few-names =
      let s = tree-spells p.names (length p.codes) p.root (tree-proper p.names (omega arith)) in
      omega (arith, p.few-names, few-appearing p.names (length p.codes) (write_cmd p.root) s)

  pub image-back : {list : List ℕ} {fields : List Entry} (names : List (List ℕ)) (out work : ℕ)
      → Listed list fields → map code_of fields ≡ p.codes → Each VariableName names → Different names → p.names ≤ length names
      → Lent out work (text_of fields names (tree_of img))
      → Reads out work list (text_of fields names (tree_of img)) (image_of fields (tree_of img))
  image-back {list} {fields} names out work listed codes variables different enough lent =
      let e : length p.codes ≡ length fields = ap length (sym codes) ∙ length-map fields code_of in
      let proper : ProperCmd (Field (length fields)) (Name (length names)) p.root =
      subst (λ F. ProperCmd (Field F) (Name (length names)) p.root) e (tree-proper (length names) enough) in
      subst (λ c. Lent out work (text_of fields names c) → Reads out work list (text_of fields names c) (image_of fields c)) (sym (the-tree img p))
      (reads-image names out work listed variables different p.root proper few-nodes few-names)
      lent

-- ---- the same of what is published, by what is read in the image

module _ {visible : Names} (img : List ℕ) (p : Published visible img) where
  abbrev written : Written visible img
  written = published-written img p

  abbrev in_image : ImageReads img written.codes written.nodes written.names
  in_image = reads written.codes written.nodes written.names img written.laid_out

  codes-are : written.codes ≡ codes_of img
  codes-are =
      same-elems written.codes (codes_of img) (sym in_image.fields ∙ sym (length-up_to (code_at img) (fields_of img)))
      (λ i x y e h. sym (in_image.code i x e) ∙ (up_to-of (code_at img) (fields_of img) i y h).1)

  pub published-back : {list : List ℕ} {fields : List Entry} (names : List (List ℕ)) (out work : ℕ)
      → Listed list fields → map code_of fields ≡ codes_of img → Each VariableName names → Different names → names_of img ≤ length names
      → Lent out work (text_of fields names (tree_of img))
      → Reads out work list (text_of fields names (tree_of img)) (image_of fields (tree_of img))
  published-back names out work listed codes variables different enough =
      image-back img written names out work listed (codes ∙ sym codes-are) variables different (rw in_image.names-count at enough)
