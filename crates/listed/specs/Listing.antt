-- The listing: document 01, "Listing", line by line. A line is a list of words. The header and a row for each step, the
-- end, the cells in frame order, then the fields of the objects in order. A refused script has one line.
-- `printed` is what the listing program prints for the two files, each there or missing. Assumes nothing.
use Rattle.std.specs.Prelude.{ℕ, zero, suc, cond, length, leb}
use Rattle.std.proofs.Math.Option.{Option, none, some}
use mathlib.Core.List.{List, [], ◌∷◌, ◌++◌, map, flatten}
use Rattle.std.specs.Int.{w32}
use Rattle.std.proofs.Common.{to_z}
use Rattle.rules.specs.declared.Chain.{Chain}
use Rattle.rules.specs.declared.Chain.TheVariants.{Empty, From}
use Rattle.rules.specs.declared.Value.{Value}
use Rattle.rules.specs.declared.Value.TheVariants.{Nothing, Null, Int, Field, Object, Proc, Unset}
use Rattle.rules.specs.declared.Frame.{Frame}
use Rattle.rules.specs.declared.Stop.{Stop}
use Rattle.rules.specs.declared.Stop.TheVariants.{Faulted, Full, OutOfRange, NoRule}
use Rattle.rules.specs.declared.End.{End}
use Rattle.rules.specs.declared.End.TheVariants.{Done, UsedUp, Stopped}
use Rattle.rules.specs.declared.Verdict.{Verdict}
use Rattle.rules.specs.declared.Verdict.TheVariants.{Accepted, Refused}
use Rattle.rules.specs.Image.{code_at}
use Rattle.rules.specs.State.{size, Store, AnObject}
use Rattle.rules.specs.Refusals.{check}
use Rattle.rules.specs.Run.{Ran, run_script}
use Rattle.rules.specs.Numbers.{end_no}
use Rattle.words.specs.Lent.{StepRow, row_words, rows_of}
use Rattle.text.specs.Ascii.{ascii}
use Rattle.text.specs.Text.{decimal, signed, line}

-- ---- the header, the rows, the end

unfoldable pub header_line : List ℕ
header_line = line (ascii "step" ∷ ascii "choice" ∷ ascii "node" ∷ ascii "tag" ∷ ascii "frames" ∷ ascii "objects" ∷ [])

-- the row of step k, from 1
unfoldable pub row_line : ℕ → StepRow → List ℕ
row_line k r = line (map decimal (k ∷ row_words r))

unfoldable pub row_lines : ℕ → List StepRow → List (List ℕ)
row_lines k [] = []
row_lines k (r ∷ rs) = row_line k r ∷ row_lines (suc k) rs

-- what the line says of a stop, besides its number
unfoldable pub stop_words : Stop → List (List ℕ)
stop_words (Faulted k n) = ascii "fault" ∷ decimal k ∷ ascii "node" ∷ decimal n ∷ []
stop_words (Full k) = ascii "room" ∷ decimal k ∷ []
stop_words OutOfRange = []
stop_words NoRule = []

unfoldable pub end_words : End → List (List ℕ)
end_words Done = []
end_words UsedUp = []
end_words (Stopped r) = stop_words r

-- `NoRule`, which no run of an accepted script ends with, has the number 0
unfoldable pub end_line : End → ℕ → List ℕ
end_line e steps = line (ascii "end" ∷ decimal (end_no e) ∷ (end_words e ++ (ascii "steps" ∷ decimal steps ∷ [])))

unfoldable pub refused_line : ℕ → ℕ → List ℕ
refused_line k p = line (ascii "refused" ∷ decimal k ∷ ascii "at" ∷ decimal p ∷ [])

-- ---- values, cells, objects

-- the attribute code of a field index, which counts from 1; index 0 is no field
unfoldable pub code_of : List ℕ → ℕ → ℕ
code_of img zero = 0
code_of img (suc i) = code_at img i

unfoldable pub chain_word : Chain → List ℕ
chain_word Empty = ascii "none"
chain_word (From k) = decimal k

-- `Nothing` is no value: no word
unfoldable pub value_words : List ℕ → Value → List (List ℕ)
value_words img Nothing = []
value_words img Null = ascii "null" ∷ []
value_words img (Int b) = ascii "int" ∷ signed (to_z w32 b) ∷ []
value_words img (Field f) = ascii "field" ∷ decimal (code_of img f) ∷ []
value_words img (Object o) = ascii "object" ∷ decimal o ∷ []
value_words img (Proc n ch) = ascii "proc" ∷ decimal n ∷ chain_word ch ∷ []
value_words img Unset = ascii "unset" ∷ []

module _ (img : List ℕ) where
  -- frame k
  unfoldable pub cell_line : ℕ → Frame → List ℕ
  cell_line k f = line (ascii "cell" ∷ decimal k ∷ ascii "name" ∷ decimal f.name ∷ value_words img f.cell)

  unfoldable pub cell_lines : ℕ → List Frame → List (List ℕ)
  cell_lines k [] = []
  cell_lines k (f ∷ fs) = cell_line k f ∷ cell_lines (suc k) fs

  -- object o, the field at position i from 0
  unfoldable pub field_line : ℕ → ℕ → Value → List ℕ
  field_line o i v = line (ascii "object" ∷ decimal o ∷ ascii "field" ∷ decimal (code_at img i) ∷ value_words img v)

  unfoldable pub field_lines : ℕ → ℕ → List Value → List (List ℕ)
  field_lines o i [] = []
  field_lines o i (v ∷ vs) = field_line o i v ∷ field_lines o (suc i) vs

  unfoldable pub object_lines : ℕ → List AnObject → List (List ℕ)
  object_lines o [] = []
  object_lines o (x ∷ os) = field_lines o 0 x.values ++ object_lines (suc o) os

  unfoldable pub run_lines : List StepRow → Ran Store → List (List ℕ)
  run_lines rs r =
      header_line
      ∷ (row_lines 1 rs
      ++ (end_line r.end r.steps ∷ (cell_lines 0 r.store.frames ++ object_lines 0 r.store.objects)))

-- ---- the answers of one line

unfoldable pub no_input : List ℕ
no_input = line (ascii "no input" ∷ [])

unfoldable pub choices_too_long : List ℕ
choices_too_long = line (ascii "choices too long" ∷ [])

-- ---- the whole

unfoldable pub lines_by : Verdict → List (List ℕ) → List (List ℕ)
lines_by Accepted ls = ls
lines_by (Refused k p) ls = refused_line k p ∷ []

-- the lines for a script and choices, with a workspace of the right size
unfoldable pub listing_lines : List ℕ → List ℕ → List (List ℕ)
listing_lines img cs = lines_by (check [] size img) (run_lines img (rows_of img cs) (run_script img cs))

unfoldable pub listing : List ℕ → List ℕ → List ℕ
listing img cs = flatten (listing_lines img cs)

unfoldable pub most_choices : ℕ
most_choices = 4096

-- a missing file is tested first, then the number of choices, then the script
unfoldable pub printed : Option (List ℕ) → Option (List ℕ) → List ℕ
printed none cs = no_input
printed (some img) none = no_input
printed (some img) (some cs) = cond (leb (length cs) most_choices) (listing img cs) choices_too_long
