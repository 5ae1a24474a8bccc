-- What stands in the buffer when a text's items and the head are put there is the image that the text stands for. Assumes nothing.
use Prim.Native.Nat.{ℕ, ◌+◌, ◌*◌, ◌≤◌}
use mathlib.Core.Path.{◌≡◌, sym, ap, ◌∙◌}
use mathlib.Core.List.{List, map}
use native.Mathlib.Omega.{arith}
use lib.ListN.{length, take, length-map}
use lib.Seq.{sets, length-sets, length-take-le}
use Rattle.rules.specs.Image.{most_fields}
use Rattle.grammar.specs.FieldList.{Entry, code_of}
use Rattle.grammar.specs.Nodes.{size_cmd}
use Rattle.grammar.specs.Names.{names_in}
use Rattle.grammar.specs.Reads.{ReadsText}
use Rattle.reading.specs.Items.{items_cmd}
use Rattle.reading.proofs.ItemSizes.{items-long}
use Rattle.reading.proofs.ReadLinks.{read-image}
use Rattle.tables.specs.Tabled.{Tabled, head_bytes}
use Rattle.tables.proofs.Tabling.{tabled-image}

module _
    (fields : List Entry)
    (text img : List ℕ)
    (r : ReadsText fields text img)
    (few : length fields ≤ most_fields)
    (start : ℕ)
    (buf firsts buf' : List ℕ)
    (t : Tabled (items_cmd r.tree) start buf firsts)
    (starts : start ≡ 10 + 2 * length fields)
    (room : start + 8 * size_cmd r.tree ≤ length buf)
    (head : buf' ≡ sets buf 0 (head_bytes (map code_of fields) (size_cmd r.tree) (length (names_in r.places)))) where
  pub tabled-read : take (start + 8 * size_cmd r.tree) buf' ≡ img
  tabled-read =
      let l = items-long r.tree in
      let m = length-map fields code_of in
      rw (← l)
      (tabled-image (items_cmd r.tree) (map code_of fields) (length (names_in r.places)) start buf firsts buf' t
      (omega arith) (omega arith) (rw l head)
      ∙ sym (read-image fields text img r few))

  pub image-long : length img ≡ start + 8 * size_cmd r.tree
  image-long =
      let l = length-sets buf 0 (head_bytes (map code_of fields) (size_cmd r.tree) (length (names_in r.places))) in
      let m : length buf' ≡ length buf = ap length head ∙ l in
      sym (ap length tabled-read) ∙ length-take-le (start + 8 * size_cmd r.tree) buf' (omega arith)
