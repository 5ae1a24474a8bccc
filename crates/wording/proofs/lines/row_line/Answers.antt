-- `wording::lines::row_line` meets its contract. Four pieces in a row. Assumes nothing.
use Rattle.wording.proofs.LineLaws.{row-line-wrote}
use Rattle.std.proofs.Common.{rules}
use Rattle.wording.proofs.lines.row_line.Goals as goal

pub returns : goal.returns
returns c = search (rules, row-line-wrote)
