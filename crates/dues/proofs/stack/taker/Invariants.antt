use Rattle.dues.proofs.StackLaws.{Looked}
use Rattle.dues.proofs.stack.taker.Given as goal

abbrev pub invariant-loop-i : goal.invariant-loop-i
invariant-loop-i l = Looked l.ws l.depth l.k l.i

abbrev pub decreases-loop-i : goal.decreases-loop-i
decreases-loop-i l = l.i
