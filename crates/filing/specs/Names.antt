-- The names of files that are made: how long one may be, and under which another is made before it takes its own. Assumes nothing.
use Rattle.std.specs.Prelude.{ℕ, List, ◌++◌}
use Rattle.text.specs.Ascii.{ascii}

-- as long as a program's argument
abbrev pub most_name : ℕ
most_name = 4096

unfoldable pub part_name : List ℕ → List ℕ
part_name name = name ++ ascii ".part"

abbrev pub most_part_name : ℕ
most_part_name = 4101
