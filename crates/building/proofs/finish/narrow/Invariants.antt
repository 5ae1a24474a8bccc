use Rattle.building.proofs.FinishLaws.{Narrowed}
use Rattle.building.proofs.finish.narrow.Given as goal

abbrev pub invariant-loop-i : goal.invariant-loop-i
invariant-loop-i l = Narrowed l.codes l.words l.i
