use Rattle.dues.proofs.StackLaws.{Looked}
use Rattle.building.proofs.nodes.all_pass.Given as goal

abbrev pub invariant-loop-i : goal.invariant-loop-i
invariant-loop-i l = Looked l.work l.depth 0 l.i
