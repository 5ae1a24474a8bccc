-- What the code answers to a list of fields, all of it. Assumes nothing.
use Rattle.std.specs.Prelude.{ℕ, suc, ◌-◌, ◌<◌, ◌≤◌, ◌≡◌, List, ◌++◌, map, length, get_or, replicate, Result, Ok, Err}
use Rattle.laws.specs.UpTo.{up_to}
use Rattle.rules.specs.Image.{most_fields}
use Rattle.grammar.specs.FieldList.{Entry, entry, Listed}
use Rattle.fieldlist.specs.Judged.{name_end, code_end, code_at, name_fault, code_fault, unless, Line, start_of, end_of, Judged, right, wrong, judged, number_of}
use Rattle.fieldlist.specs.Fault.{fault_no, fault_at}
use Rattle.fieldlist.specs.Names.{nowhere, word_at, Spans}
use Rattle.fieldlist.specs.declared.names.Span.{Span}
use Rattle.fieldlist.specs.declared.fault.RowFault.{RowFault}
use Rattle.fieldlist.specs.declared.FieldRows.{FieldRows}
use Rattle.fieldlist.specs.declared.BadRow.{BadRow}
use Rattle.fieldlist.specs.declared.parts.CodePart.{CodePart}
use Rattle.fieldlist.specs.declared.parts.RowPart.{RowPart}

-- sixteen: these, and as many of one more behind them
unfoldable pub sixteen : {A : Type 0} → A → List A → List A
sixteen z xs = xs ++ replicate (most_fields - length xs) z

abbrev pub span_of : Line → Span
span_of l = record { from = start_of l; to = end_of l }

unfoldable pub answer_of : Judged → Result FieldRows BadRow
answer_of (right ls) = Ok (record { count = length ls; names = sixteen nowhere (map span_of ls); codes = sixteen 0 (map number_of ls) })
answer_of (wrong row why) = Err (record { row = row; fault = fault_at why })

-- ---- what the functions below it say

-- a row as the code reads it: where its name ends, its code, and where the next row begins

abbrev pub NameSays : List ℕ → List (List ℕ) → ℕ → Result ℕ RowFault → Type 0
NameSays list names at (Ok end) = (name_fault list names at ≡ 0) × (end ≡ name_end list at) × (end ≤ length list)
NameSays list names at (Err f) = name_fault list names at ≡ fault_no f

abbrev pub CodeSays : List ℕ → ℕ → ℕ → Result CodePart RowFault → Type 0
CodeSays list last end (Ok p) = (code_fault list last end ≡ 0) × (p.code ≡ code_at list end) × (p.next ≡ suc (code_end list end))
CodeSays list last end (Err f) = code_fault list last end ≡ fault_no f

abbrev pub RowSays : List ℕ → List (List ℕ) → ℕ → ℕ → Result RowPart RowFault → Type 0
RowSays list names last at (Ok p) =
    (unless (name_fault list names at) (code_fault list last (name_end list at)) ≡ 0)
    × (p.end ≡ name_end list at)
    × (p.code ≡ code_at list (name_end list at))
    × (p.next ≡ suc (code_end list (name_end list at)))
RowSays list names last at (Err f) = unless (name_fault list names at) (code_fault list last (name_end list at)) ≡ fault_no f

-- ---- the rows of an answer

unfoldable pub entries_of : List ℕ → FieldRows → List Entry
entries_of list r = up_to (λ i. entry (word_at list (get_or r.names i nowhere)) (get_or r.codes i 0)) r.count

pub record RightRows (list : List ℕ) (r : FieldRows) : Type 0 where
  pub listed : Listed list (entries_of list r)
  pub few : r.count ≤ most_fields
  pub spans : Spans list r.names r.count
  pub coded : (i : ℕ) → i < r.count → (0 < get_or r.codes i 0) × (get_or r.codes i 0 < 65536)
  pub spare : (i : ℕ) → r.count ≤ i → (get_or r.names i nowhere ≡ nowhere) × (get_or r.codes i 0 ≡ 0)

-- a list is right; or there is no way to read it as one that is, and this is its first bad row
abbrev pub Says : List ℕ → Result FieldRows BadRow → Type 0
Says list (Ok r) = RightRows list r
Says list (Err e) = (judged list ≡ wrong e.row (fault_no e.fault)) × ((fs : List Entry) → Listed list fs → ⊥)

-- the whole contract of an answer: the judgement says every field of it
pub record Answers (list : List ℕ) (r : Result FieldRows BadRow) : Type 0 where
  pub is : r ≡ answer_of (judged list)
  pub says : Says list r
