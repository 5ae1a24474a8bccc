-- What stands in the lent rows and in the words of a workspace, as lists: the rows that a traced run wrote (module Lent of
-- the crate words), the frames, the objects. Said of any words; that they are those of a state that is laid out in the words is
-- proved (proofs/OfState). And the text of a run made of them. Assumes nothing.
use Rattle.std.specs.Prelude.{ℕ, zero, suc, ◌+◌, ◌*◌, ◌-◌, ◌%◌, get_or}
use mathlib.Core.List.{List, [], ◌∷◌, ◌++◌, flatten}
use Rattle.words.specs.Layout.{frame_count, object_count, value_end}
use Rattle.rules.specs.declared.Value.{Value}
use Rattle.rules.specs.declared.Frame.{Frame}
use Rattle.rules.specs.declared.End.{End}
use Rattle.rules.specs.Image.{fields_of, most_fields}
use Rattle.words.specs.Lent.{StepRow}
use Rattle.words.specs.Decode.{value_of, frame_of}
use Rattle.listed.specs.Listing.{header_line, row_lines, end_line, cell_lines, object_lines}
use Rattle.rules.specs.State.{AnObject, object, most_frames, most_objects, objects_at, frames_at}

-- ---- one entry

-- row i, from 0: five words
abbrev pub lent_row : List ℕ → ℕ → StepRow
lent_row rows i =
    record {
      choice = get_or rows (5 * i) 0;
      node = get_or rows (5 * i + 1) 0;
      tag = get_or rows (5 * i + 2) 0;
      frames = get_or rows (5 * i + 3) 0;
      objects = get_or rows (5 * i + 4) 0;
    }

abbrev pub frame_in : List ℕ → ℕ → Frame
frame_in ws k = frame_of (get_or ws (frames_at + k) 0)

-- object o, the field at position i from 0; a value has 35 bits
abbrev pub field_word_in : List ℕ → ℕ → ℕ → Value
field_word_in ws o i = value_of (get_or ws (objects_at + (most_fields * o + i)) 0 % value_end)

-- ---- all of them

-- f 0, f 1, .., f (n − 1)
unfoldable pub listed : {A : Type 0} → (ℕ → A) → ℕ → List A
listed f zero = []
listed f (suc n) = listed f n ++ (f n ∷ [])

-- a count that a word gives, within its limit
unfoldable pub at_most : ℕ → ℕ → ℕ
at_most most n = n - (n - most)

unfoldable pub rows_in : List ℕ → ℕ → List StepRow
rows_in rows steps = listed (lent_row rows) steps

-- the first n frames
unfoldable pub frames_up_to : List ℕ → ℕ → List Frame
frames_up_to ws n = listed (frame_in ws) n

unfoldable pub frames_in : List ℕ → List Frame
frames_in ws = frames_up_to ws (at_most most_frames (frame_count ws))

-- the first n fields of object o
unfoldable pub fields_up_to : List ℕ → ℕ → ℕ → List Value
fields_up_to ws o n = listed (field_word_in ws o) n

-- every object has the script's fields
unfoldable pub object_in : List ℕ → List ℕ → ℕ → AnObject
object_in img ws o = object (fields_up_to ws o (at_most most_fields (fields_of img)))

-- the first n objects
unfoldable pub objects_up_to : List ℕ → List ℕ → ℕ → List AnObject
objects_up_to img ws n = listed (object_in img ws) n

unfoldable pub objects_in : List ℕ → List ℕ → List AnObject
objects_in img ws = objects_up_to img ws (at_most most_objects (object_count ws))

-- ---- the text of a run of an accepted script: the listing's order, over what the words say

unfoldable pub run_text : List ℕ → List ℕ → List ℕ → End → ℕ → List ℕ
run_text img ws rows e steps =
    flatten
    (header_line
    ∷ (row_lines 1 (rows_in rows steps)
    ++ (end_line e steps ∷ (cell_lines img 0 (frames_in ws) ++ object_lines img 0 (objects_in img ws)))))
