-- What the program `encode` makes of two files, a text and a list of fields: what is printed, and the image or none. Each file is there with its bytes,
-- also with none, or it is missing. A missing file is tested first, then the length of the text, then that of the list, then the list, then the text;
-- so just one of the ways holds. Order 1 says which image a text stands for and what is refused (`Reads`, `RefusedText`); the second line of a
-- refusal is for people. Assumes nothing.
use Rattle.std.specs.Prelude.{ℕ, ◌<◌, ◌≤◌, ◌≡◌, List, ◌++◌, length}
use Rattle.std.proofs.Math.Option.{Option, none, some}
use Rattle.std.proofs.Math.Seq.{slice}
use Rattle.grammar.specs.FieldList.{Entry, Listed}
use Rattle.grammar.specs.Reads.{most_bytes, words_for, Reads, RefusedText}
use Rattle.fieldlist.specs.Judged.{wrong, judged}
use Rattle.reader.specs.declared.why.Why.{Why}
use Rattle.reader.specs.Why.{Stops}
use Rattle.wording.specs.Lines.{no_input, text_too_long, list_too_long, image_line, refused_line, row_line, second_line}

-- ---- limits of the program alone

abbrev pub most_text : ℕ
most_text = 262144

abbrev pub most_list : ℕ
most_list = 4096

abbrev pub Short : List ℕ → List ℕ → Type 0
Short text list = (length text ≤ most_text) × (length list ≤ most_list)

-- what it lends to the reader: the bytes of the largest image, and the words for the longest text
abbrev pub lent_bytes : ℕ
lent_bytes = most_bytes

abbrev pub lent_words : ℕ
lent_words = words_for most_text

-- ---- the two lines of a refusal

-- 21: the first bad row, from 1, and what is wrong with it
unfoldable pub bad_list_lines : ℕ → ℕ → List ℕ
bad_list_lines row why = refused_line 21 0 ++ row_line row why

-- 22 to 27: the number and the line, and what is told of the place
unfoldable pub bad_text_lines : List ℕ → Why → List ℕ
bad_text_lines text w = refused_line w.why w.line ++ second_line w.why w.kind (slice w.from w.to text) w.could

-- ---- the answers

-- `name` is the image's name; of the text, the list, the bytes printed and the image
pub data Encodes (name : List ℕ) : Option (List ℕ) → Option (List ℕ) → List ℕ → Option (List ℕ) → Type 0 where
  text-missing : {list : Option (List ℕ)} → Encodes name none list no_input none
  list-missing : {text : List ℕ} → Encodes name (some text) none no_input none
  text-too-long : {text list : List ℕ} → most_text < length text → Encodes name (some text) (some list) text_too_long none
  list-too-long : {text list : List ℕ} → length text ≤ most_text → most_list < length list → Encodes name (some text) (some list) list_too_long none
  an-image : {text list img : List ℕ}
      → Short text list → Reads lent_bytes lent_words list text img → Encodes name (some text) (some list) (image_line name (length img)) (some img)
  bad-list : {text list : List ℕ} {row why : ℕ}
      → Short text list → judged list ≡ wrong row why → Encodes name (some text) (some list) (bad_list_lines row why) none
  bad-text : {text list : List ℕ} {fields : List Entry} {w : Why}
      → Short text list
      → Listed list fields
      → RefusedText fields text w.why w.line
      → Stops fields text w
      → Encodes name (some text) (some list) (bad_text_lines text w) none
