-- `report::lines::cell_line` meets its contract. Three pieces in a row. Assumes nothing.
use Rattle.report.proofs.LineLaws.{cell-wrote}
use Rattle.std.proofs.Common.{rules}
use Rattle.report.proofs.lines.cell_line.Goals as goal

pub returns : goal.returns
returns c = search (rules, cell-wrote)
