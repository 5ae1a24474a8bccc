-- `report::lines::row_line` meets its contract. Six pieces in a row. Assumes nothing.
use Rattle.report.proofs.LineLaws.{row_wrote}
use Rattle.std.proofs.Common.{rules}
use Rattle.report.proofs.lines.row_line.Goals as goal

pub returns : goal.returns
returns c = search (rules, row_wrote)
