-- `pen::store_all` meets its contract: the bytes up to the index are stored. Assumes nothing.
use Rattle.pen.proofs.RunLaws.{Stored}
use Rattle.pen.proofs.store_all.Given as goal

abbrev pub invariant-loop-k : goal.invariant-loop-k
invariant-loop-k l = Stored l.initial.out l.bytes l.at l.k l.out
