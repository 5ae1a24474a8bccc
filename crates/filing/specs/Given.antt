-- A file that is there, with its bytes, also with none, or missing. Assumes nothing.
use Rattle.std.specs.Prelude.{ℕ, List, Option, None, Some}
use Rattle.std.proofs.Common.{Bor}
use Rattle.std.proofs.Math.Option.{Option as Maybe, none, some}

abbrev pub given : Option (Bor (List ℕ)) → Maybe (List ℕ)
given None = none
given (Some bytes) = some bytes.now
