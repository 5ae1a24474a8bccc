-- `wording::lines::nodes_line` meets its contract. The text is the line. Assumes nothing.
use Rattle.wording.proofs.LineLaws.{nodes-wrote}
use Rattle.std.proofs.Common.{rules}
use Rattle.wording.proofs.lines.nodes_line.Goals as goal

pub returns : goal.returns
returns c = search (rules, nodes-wrote)
