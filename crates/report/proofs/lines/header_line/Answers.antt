-- `report::lines::header_line` meets its contract. The text is the line. Assumes nothing.
use Rattle.report.proofs.LineLaws.{header-wrote}
use Rattle.std.proofs.Common.{rules}
use Rattle.report.proofs.lines.header_line.Goals as goal

pub returns : goal.returns
returns c = search (rules, header-wrote)
