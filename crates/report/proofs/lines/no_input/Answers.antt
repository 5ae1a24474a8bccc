-- `report::lines::no_input` meets its contract. The text is the line. Assumes nothing.
use Rattle.report.proofs.LineLaws.{no-input-wrote}
use Rattle.std.proofs.Common.{rules}
use Rattle.report.proofs.lines.no_input.Goals as goal

pub returns : goal.returns
returns c = search (rules, no-input-wrote)
