-- Order 1, "reading what it writes gives the image with its nodes children first, its names by first appearance and N the names that appear": the text that
-- `write` answers is read, with its list of fields, as the image renumbered so. Where the list was empty, the list that is read with is the one
-- that is made up, a0, a1, .., with the image's codes. Assumes nothing.
use Prim.Native.Nat.{ℕ, ◌≤◌}
use mathlib.Core.Path.{◌≡◌, refl, sym, ap, subst, ◌∙◌}
use mathlib.Core.List.{List, [], ◌∷◌, map}
use native.Mathlib.Omega.{arith}
use lib.ListN.{length, take, drop}
use lib.Seq.{take_at}
use Rattle.laws.specs.UpTo.{up_to, length-up_to, up_to-of, same-elems}
use Rattle.rules.specs.Syntax.{Cmd}
use Rattle.rules.specs.Image.{fields_of, names_of, code_at, node_at, cmd_at}
use Rattle.rules.specs.State.{size}
use Rattle.rules.specs.Script.{root_of}
use Rattle.rules.specs.Published.{Bytes as AllBytes, Published, image}
use Rattle.rules.specs.declared.Verdict.TheVariants.{Accepted}
use Rattle.rules.proofs.Table.{ImageReads, reads}
use Rattle.rules.proofs.Accept.{accepted-published}
use Rattle.rules.proofs.Written.{Written, published-written}
use Rattle.grammar.specs.FieldList.{Entry, word_of, code_of, Listed}
use Rattle.grammar.specs.Nodes.{table_cmd}
use Rattle.grammar.specs.Reads.{Lent, Reads}
use Rattle.writing.specs.Spell.{made_up, made_up_field, entries_for, list_of}
use Rattle.writing.specs.Renumber.{names_written, by_appearance}
use Rattle.writing.proofs.MadeUp.{variables-made-up, fields-made-up}
use Rattle.writing.proofs.ListsBack.{lists_back, words_of, codes-of, length-of}
use Rattle.writing.specs.Back.{text_of as spelled_with}
use Rattle.writing.proofs.ImageBack.{image-back}
use Rattle.writer.specs.declared.WriteError.{WriteError}
use Rattle.std.specs.Prelude.{Result, Ok, Err}
use Rattle.writer.specs.Walk.{names_for}
use Rattle.writer.specs.Answer.{every_name, verdict, codes_of, Words, made-up, listed, text_of, Answers, written, bad-image, bad-list, other-codes, too-short}
use Rattle.writer.proofs.Determined.{words-one}

-- the image, its nodes children first, its names by first appearance, and as many as appear
unfoldable pub renumbered : List ℕ → List ℕ
renumbered img =
    image (codes_of img) (table_cmd 0 (by_appearance (cmd_at (node_at img) (root_of img)))) (length (names_written (cmd_at (node_at img) (root_of img))))

-- the list of fields that the text is read with
unfoldable pub list_for : List ℕ → List ℕ → List ℕ
list_for img [] = list_of (entries_for made_up_field (codes_of img))
list_for img (b ∷ list) = b ∷ list

module _ (img : List ℕ) (bytes : AllBytes img) (accepted : verdict img ≡ Accepted) where
  published : Published every_name img
  published = accepted-published every_name size img bytes accepted

  tree-written : Written every_name img
  tree-written = published-written img published

  abbrev tree : Cmd
  tree = cmd_at (node_at img) (root_of img)

  read : ImageReads img tree-written.codes tree-written.nodes tree-written.names
  read = reads tree-written.codes tree-written.nodes tree-written.names img tree-written.laid_out

  codes-are : tree-written.codes ≡ codes_of img
  codes-are =
      same-elems tree-written.codes (codes_of img) (sym read.fields ∙ sym (length-up_to (code_at img) (fields_of img)))
      (λ i x y e f. sym (read.code i x e) ∙ (up_to-of (code_at img) (fields_of img) i y f).1)

  module _ (room work : ℕ) where
    read-listed : {list : List ℕ} {fs : List Entry} → Listed list fs → map code_of fs ≡ codes_of img → Lent room work (text_of img (map word_of fs))
        → Reads room work list (text_of img (map word_of fs)) (renumbered img)
    unfolding text_of renumbered
    read-listed {list} {fs} l e h =
        let v = variables-made-up (names_of img) in
        let n : tree-written.names ≤ length (names_for img) = rw (length-up_to made_up (names_of img)) (omega (arith, read.names-count)) in
        let r = image-back img tree-written {list = list} {fields = fs} (names_for img) room work l (e ∙ sym codes-are) v.0 v.1 n h in
        subst
        (λ ks. Reads room work list (spelled_with fs (names_for img) tree) (image ks (table_cmd 0 (by_appearance tree)) (length (names_written tree))))
        e r

    unfoldable made-fields : List Entry
    made-fields = entries_for made_up_field (codes_of img)

    made-listed : Listed (list_of made-fields) made-fields
    unfolding made-fields
    made-listed =
        let f = fields-made-up (length (codes_of img)) in
        let ws = words_of made_up_field (codes_of img) in
        let ks = codes-of made_up_field (codes_of img) in
        let n = length-of made_up_field (codes_of img) in
        let c = ap length codes-are in
        let i = tree-written.increasing in
        lists_back made-fields (omega (arith, tree-written.few-codes)) (rw ws f.0) (rw ws f.1) (rw ks (rw codes-are at i))

    made-words : map word_of made-fields ≡ up_to made_up_field (fields_of img)
    unfolding made-fields
    made-words = words_of made_up_field (codes_of img) ∙ ap (up_to made_up_field) (length-up_to (code_at img) (fields_of img))

    read_made : Lent room work (text_of img (up_to made_up_field (fields_of img)))
        → Reads room work (list_of made-fields) (text_of img (up_to made_up_field (fields_of img))) (renumbered img)
    unfolding made-fields
    read_made =
        subst (λ ws. Lent room work (text_of img ws) → Reads room work (list_of made-fields) (text_of img ws) (renumbered img)) made-words
        (read-listed made-listed (codes-of made_up_field (codes_of img)))

    read-words : (list : List ℕ) {ws : List (List ℕ)} → Words img list ws → Lent room work (text_of img ws)
        → Reads room work (list_for img list) (text_of img ws) (renumbered img)
    unfolding list_for made-fields
    read-words [] w =
        subst (λ vs. Lent room work (text_of img vs) → Reads room work (list_of made-fields) (text_of img vs) (renumbered img)) (sym (words-one w (made-up refl))) read_made
    read-words (b ∷ list) (made-up z) = let y : ◌≡◌ {A = ℕ} 0 1 = cc in absurd (omega arith)
    read-words (b ∷ list) (listed l e) = read-listed l e

-- what an answer says of reading
abbrev ReadSays : ℕ → ℕ → List ℕ → List ℕ → Result ℕ WriteError → List ℕ → Type 0
ReadSays room work img list (Ok n) out = Lent room work (take n out) → Reads room work (list_for img list) (take n out) (renumbered img)
ReadSays room work img list (Err k) out = Unit {0}

read-says : (img list lent : List ℕ) (room work : ℕ) {r : Result ℕ WriteError} {out : List ℕ} → AllBytes img → Answers img list lent r out → ReadSays room work img list r out
read-says img list lent room work bytes (written {words} {n} {out} a w e h i) =
    let t : take n out ≡ text_of img words = rw i (take_at (text_of img words) (drop n lent) n (sym e)) in
    rw t (read-words img bytes a room work list w)
read-says img list lent room work bytes (bad-image a) = tt
read-says img list lent room work bytes (bad-list a n) = tt
read-says img list lent room work bytes (other-codes a n l d) = tt
read-says img list lent room work bytes (too-short a w l) = tt

-- with enough lent to the reader
pub reads-what-is-written : (img list lent : List ℕ) (room work n : ℕ) (out : List ℕ) → AllBytes img → Answers img list lent (Ok n) out → Lent room work (take n out)
    → Reads room work (list_for img list) (take n out) (renumbered img)
reads-what-is-written img list lent room work n out bytes a = read-says img list lent room work bytes a
