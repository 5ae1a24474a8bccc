-- `letters::runs::word_end` meets its contract: where the run from a byte on ends, that from the first one on does. Assumes nothing.
use Rattle.letters.proofs.RunLaws.{word-out, word_on, run-ended}
use Rattle.std.proofs.Common.{rules, arith}
use Rattle.letters.proofs.runs.word_end.Goals as goal

pub returns-then-class-lt-UPPER : goal.returns-then-class-lt-UPPER
returns-then-class-lt-UPPER c = (word-out c.loop-i.invariant c.loop-i-test.true c.class_of-class.ensures c.then-class-lt-UPPER.either, omega arith)

pub loop-i-preserved : goal.loop-i-preserved
loop-i-preserved c = search (rules, word_on)

pub returns : goal.returns
returns c = search (rules, run-ended)
