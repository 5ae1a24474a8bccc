-- The image of a text is laid out from the linked items of its tree: what the code has to write. Assumes nothing.
use Prim.Native.Nat.{ℕ, ◌≤◌}
use mathlib.Core.Path.{◌≡◌}
use mathlib.Core.List.{List, map}
use native.Mathlib.Omega.{arith}
use lib.ListN.{length, length-map}
use Rattle.rules.specs.Image.{most_fields}
use Rattle.rules.specs.Published.{image}
use Rattle.grammar.specs.FieldList.{Entry, code_of}
use Rattle.grammar.specs.Nodes.{table_cmd}
use Rattle.grammar.specs.Names.{names_in}
use Rattle.grammar.specs.Reads.{ReadsText}
use Rattle.grammar.specs.Proper.{Field, Name}
use Rattle.grammar.proofs.ReadChecks.{read-proper}
use Rattle.reading.specs.Items.{items_cmd}
use Rattle.reading.specs.Links.{nodes_in, link}
use Rattle.reading.proofs.Links.{links-are}

module _ (fields : List Entry) (text img : List ℕ) (r : ReadsText fields text img) (few : length fields ≤ most_fields) where
  pub read-links : nodes_in (link (items_cmd r.tree)) ≡ table_cmd 0 r.tree
  read-links =
      let l = length-map fields code_of in
      links-are (Field (length (map code_of fields))) (Name (length (names_in r.places)))
      (λ f p. omega (arith, p.1)) (λ x p. omega (arith, r.valued.few-names))
      r.tree (read-proper fields text img r)

  pub read-image : img ≡ image (map code_of fields) (nodes_in (link (items_cmd r.tree))) (length (names_in r.places))
  read-image = rw read-links r.is
