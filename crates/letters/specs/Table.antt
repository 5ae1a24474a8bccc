-- The table of classes: the class of each of the 256 bytes, in order. Assumes nothing.
use Rattle.std.specs.Prelude.{ℕ, List}
use Rattle.laws.specs.UpTo.{up_to}
use Rattle.grammar.specs.Classes.{class_of}

unfoldable pub classes : List ℕ
classes = up_to class_of 256
