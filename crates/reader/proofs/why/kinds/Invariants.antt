-- `reader::why::kinds` meets its contract: the end and the kinds below k have been asked. Assumes nothing.
use Rattle.reader.proofs.TakingLaws.{Asking}
use Rattle.reader.proofs.why.kinds.Given as goal

abbrev pub invariant-loop-k : goal.invariant-loop-k
invariant-loop-k l = Asking l.work l.depth l.k l.could
