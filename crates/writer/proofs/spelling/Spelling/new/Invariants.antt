-- `writer::spelling::Spelling::new` meets its contract: the nodes below n are marked. Assumes nothing.
use Rattle.writer.specs.Ends.{EndsTo}
use Rattle.writer.proofs.spelling.Spelling.new.Given as goal

abbrev pub invariant-loop-n : goal.invariant-loop-n
invariant-loop-n l = EndsTo l.script l.n l.ends
