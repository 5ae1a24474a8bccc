-- The name under which a file is made, written in two pieces. Assumes nothing.
use Prim.Native.Nat.{ℕ, ◌+◌, ◌≤◌}
use mathlib.Core.Path.{refl}
use mathlib.Core.List.{List}
use native.Mathlib.Omega.{arith}
use lib.ListN.{length}
use Rattle.text.specs.Ascii.{ascii}
use Rattle.text.specs.declared.Page.{Page}
use Rattle.text.specs.Written.{Adds}
use Rattle.text.proofs.WroteLaws.{both-adds, adds_as}
use Rattle.filing.specs.Names.{most_name, most_part_name, part_name}

pub part-adds : (name : List ℕ) (p q r : Page) → length name ≤ most_name → Adds (length name) p name q → Adds 5 q (ascii ".part") r
    → Adds most_part_name p (part_name name) r
unfolding part_name
part-adds name p q r h v w =
    adds_as (length name + 5) 4101 p r (part_name name) (part_name name) (both-adds (length name) 5 p q r name (ascii ".part") v w) refl (omega arith)
