-- The numbers of what is wrong with a row, 1 to 9. Assumes nothing.
use Rattle.std.specs.Prelude.{ℕ, ◌∷◌, [], get_or, Result, Ok, Err}
use Rattle.fieldlist.specs.declared.fault.RowFault.{RowFault}
use Rattle.fieldlist.specs.declared.fault.RowFault.TheVariants.{NoRoom, NoName, Reserved, Repeated, NoComma, NoDigit, NoLineEnd, OutOfRange, NotAbove}

abbrev pub fault_no : RowFault → ℕ
fault_no NoRoom = 1
fault_no NoName = 2
fault_no Reserved = 3
fault_no Repeated = 4
fault_no NoComma = 5
fault_no NoDigit = 6
fault_no NoLineEnd = 7
fault_no OutOfRange = 8
fault_no NotAbove = 9

-- what a number is of; of 0 nothing is asked
unfoldable pub fault_at : ℕ → RowFault
fault_at k =
    get_or (NoRoom ∷ NoRoom ∷ NoName ∷ Reserved ∷ Repeated ∷ NoComma ∷ NoDigit ∷ NoLineEnd ∷ OutOfRange ∷ NotAbove ∷ []) k NoRoom

-- 0 where nothing is wrong
abbrev pub why_of : {A : Type 0} → Result A RowFault → ℕ
why_of (Ok a) = 0
why_of (Err f) = fault_no f
