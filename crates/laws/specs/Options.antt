-- What is there or is not: the code's answer as the definitions' own, and what it says of the code's. Assumes nothing.
use Rattle.std.specs.Prelude.{◌≡◌, refl, Option, Some, None}
use Rattle.std.proofs.Common.{ap}
use Rattle.std.proofs.Math.Option.{Option as Maybe, none, some}

abbrev pub math_option : {A : Type 0} → Option A → Maybe A
math_option None = none
math_option (Some a) = some a

-- the way back
abbrev pub std_option : {A : Type 0} → Maybe A → Option A
std_option none = None
std_option (some a) = Some a

pub back-option : {A : Type 0} (o : Option A) → std_option (math_option o) ≡ o
back-option None = refl
back-option (Some a) = refl

pub forth-option : {A : Type 0} (o : Maybe A) → math_option (std_option o) ≡ o
forth-option none = refl
forth-option (some a) = refl
