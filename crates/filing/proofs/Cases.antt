-- A file that is there and one that is missing; a name, computed. Assumes nothing.
use Prim.Native.Nat.{ℕ}
use mathlib.Core.Path.{◌≡◌, refl}
use mathlib.Core.Option.{none, some}
use Rattle.std.specs.Prelude.{None, Some}
use Rattle.std.proofs.Common.{Bor}
use mathlib.Core.List.{List}
use Rattle.text.specs.Ascii.{ascii}
use Rattle.filing.specs.Given.{given}
use Rattle.filing.specs.Names.{part_name}

pub given-there : (bytes : Bor (List ℕ)) → given (Some bytes) ≡ some bytes.now
given-there bytes = refl

pub given-missing : given None ≡ none
given-missing = refl

pub part-name : part_name (ascii "script.img") ≡ ascii "script.img.part"
unfolding part_name
part-name = refl
