-- `report::lines::choices_too_long` meets its contract. The text is the line. Assumes nothing.
use Rattle.report.proofs.LineLaws.{too-long-wrote}
use Rattle.std.proofs.Common.{rules}
use Rattle.report.proofs.lines.choices_too_long.Goals as goal

pub returns : goal.returns
returns c = search (rules, too-long-wrote)
