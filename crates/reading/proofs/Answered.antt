-- Order 1's answers, with nothing left to hand in. Every text and list has an answer, whatever is lent: an image or a refusal. It has one image at the most, and never an
-- image and a refusal; that a refusal has one number on one line is `refused-one` of grammar's proofs/Answers. Assumes nothing.
use Prim.Native.Nat.{ℕ, ◌≤◌}
use mathlib.Core.Path.{◌≡◌, refl}
use mathlib.Core.Bool.{Bool, true, false}
use mathlib.Core.List.{List}
use lib.ListN.{length}
use lib.Dec.{ltb}
use borrow.Author.Tests.{ltb-true, ltb-false}
use Rattle.grammar.specs.FieldList.{Entry, Listed}
use Rattle.grammar.specs.Reads.{most_bytes, words_for, Lent, Reads, Refuses, short-output, short-work, bad-list, bad-text}
use Rattle.grammar.proofs.Answers.{OneReading, reads-one, reads-or-refused}
use Rattle.grammar.proofs.ListDecided.{ListAnswer, is-listed, is-bad, list-answer}
use Rattle.reading.proofs.OneReading.{one-tree}
use Rattle.reading.proofs.SomeAnswer.{TextAnswer, is_read, is-refused, some-answer}

-- ---- at the most one

only-reading : OneReading
only-reading c d ts v w = one-tree v w

pub one-image : {out work : ℕ} {list text img img' : List ℕ} → Reads out work list text img → Reads out work list text img' → img ≡ img'
one-image a b = reads-one only-reading a b

pub image-or-refusal : {out work : ℕ} {list text img : List ℕ} {k l : ℕ} → Reads out work list text img → Refuses out work list text k l → ⊥
image-or-refusal a r = reads-or-refused only-reading a r

-- ---- and one

pub data Answer (out work : ℕ) (list text : List ℕ) : Type 0 where
  an-image : {img : List ℕ} → Reads out work list text img → Answer out work list text
  a-refusal : {k l : ℕ} → Refuses out work list text k l → Answer out work list text

pub answered : (out work : ℕ) (list text : List ℕ) → Answer out work list text
answered out work list text = bytes (ltb out most_bytes) refl
  where
    reading : {fields : List Entry} → Lent out work text → Listed list fields → TextAnswer fields text → Answer out work list text
    reading {fields} lent listed (is_read r) = an-image (record { lent = lent; fields = fields; listed = listed; read = r })
    reading lent listed (is-refused r) = a-refusal (bad-text lent listed r)

    rows : Lent out work text → ListAnswer list → Answer out work list text
    rows lent (is-bad h) = a-refusal (bad-list lent h)
    rows lent (is-listed {fields} h) = reading lent h (some-answer fields text)

    words : most_bytes ≤ out → (b : Bool) → ltb work (words_for (length text)) ≡ b → Answer out work list text
    words enough true e = a-refusal (short-work enough (ltb-true work (words_for (length text)) e))
    words enough false e = rows (enough, ltb-false work (words_for (length text)) e) (list-answer list)

    bytes : (b : Bool) → ltb out most_bytes ≡ b → Answer out work list text
    bytes true e = a-refusal (short-output (ltb-true out most_bytes e))
    bytes false e = words (ltb-false out most_bytes e) (ltb work (words_for (length text))) refl
