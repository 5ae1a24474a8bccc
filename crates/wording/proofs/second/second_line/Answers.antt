-- `wording::second::second_line` meets its contract. One law for each line. Assumes nothing.
use Rattle.wording.proofs.SecondLaws.{second-nodes, second-place}
use Rattle.std.proofs.Common.{rules}
use Rattle.wording.proofs.second.second_line.Goals as goal

pub returns-then-number-eq27 : goal.returns-then-number-eq27
returns-then-number-eq27 c = search (rules, second-nodes, second-place)

pub returns-else-number-eq27 : goal.returns-else-number-eq27
returns-else-number-eq27 c = search (rules, second-nodes, second-place)
