-- `report::lines::field_line` meets its contract. Three pieces in a row, the second with the code that stands at the position. Assumes nothing.
use Rattle.report.proofs.LineLaws.{field-wrote}
use Rattle.std.proofs.Common.{rules}
use Rattle.report.proofs.lines.field_line.Goals as goal

pub returns : goal.returns
returns c = search (rules, field-wrote)
