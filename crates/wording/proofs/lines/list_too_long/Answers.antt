-- `wording::lines::list_too_long` meets its contract. The text is the line. Assumes nothing.
use Rattle.wording.proofs.LineLaws.{list-too-long-wrote}
use Rattle.std.proofs.Common.{rules}
use Rattle.wording.proofs.lines.list_too_long.Goals as goal

pub returns : goal.returns
returns c = search (rules, list-too-long-wrote)
