-- Why a script is refused, as a verdict of the definitions: the number of the broken rule, and its place. Assumes nothing.
use Rattle.std.specs.Prelude.{ℕ, Result, Ok, Err}
use Rattle.rules.specs.declared.Verdict.{Verdict}
use Rattle.rules.specs.declared.Verdict.TheVariants.{Accepted, Refused}
use Rattle.image.specs.declared.refusals.Refusal.{Refusal}
use Rattle.image.specs.declared.refusals.Refusal.TheVariants.{Workspace, Short, Contents, Length, Code, Tag, Unused, Operand, Uses, Name}

abbrev pub number_of : Refusal → ℕ
number_of Workspace = 10
number_of Short = 1
number_of Contents = 2
number_of Length = 3
number_of (Code p) = 4
number_of (Tag p) = 5
number_of (Unused p) = 6
number_of (Operand p) = 7
number_of (Uses p) = 8
number_of (Name p) = 9

-- the place of a rule that is tested once is 0
abbrev pub place_of : Refusal → ℕ
place_of Workspace = 0
place_of Short = 0
place_of Contents = 0
place_of Length = 0
place_of (Code p) = p
place_of (Tag p) = p
place_of (Unused p) = p
place_of (Operand p) = p
place_of (Uses p) = p
place_of (Name p) = p

abbrev pub refused : Refusal → Verdict
refused r = Refused (number_of r) (place_of r)

-- what an answer of the check says
abbrev pub verdict_of : {A : Type 0} → Result A Refusal → Verdict
verdict_of (Ok a) = Accepted
verdict_of (Err r) = refused r
