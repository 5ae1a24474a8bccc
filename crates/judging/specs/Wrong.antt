-- The numbers of what is wrong with a place, 22 to 26. Assumes nothing.
use Rattle.std.specs.Prelude.{ℕ}
use Rattle.judging.specs.declared.wrong.Wrong.{Wrong}
use Rattle.judging.specs.declared.wrong.Wrong.TheVariants.{BadByte, NotTaken, NoField, TooLarge, OneNameMore}

abbrev pub wrong_no : Wrong → ℕ
wrong_no BadByte = 22
wrong_no NotTaken = 23
wrong_no NoField = 24
wrong_no TooLarge = 25
wrong_no OneNameMore = 26
