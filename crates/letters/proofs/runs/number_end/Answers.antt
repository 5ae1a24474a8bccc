-- `letters::runs::number_end` meets its contract: where the run from a byte on ends, that from the first one on does. Assumes nothing.
use Rattle.letters.proofs.RunLaws.{number-on, run-ended}
use Rattle.std.proofs.Common.{rules}
use Rattle.letters.proofs.runs.number_end.Goals as goal

pub loop-i-preserved : goal.loop-i-preserved
loop-i-preserved c = search (rules, number-on)

pub returns : goal.returns
returns c = search (rules, run-ended)
