-- The rows before this place are read. Assumes nothing.
use Prim.Native.Nat.{◌-◌}
use Rattle.rules.specs.Image.{most_fields}
use Rattle.fieldlist.proofs.GoingLaws.{Going}
use Rattle.fieldlist.proofs.rows.Given as goal

abbrev pub invariant-loop-at : goal.invariant-loop-at
invariant-loop-at l = Going l.list l.names l.codes l.count l.last l.at

abbrev pub decreases-loop-at : goal.decreases-loop-at
decreases-loop-at l = most_fields - l.count
