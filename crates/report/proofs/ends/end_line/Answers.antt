-- `report::ends::end_line` meets its contract. One law for each kind of end. Assumes nothing.
use Rattle.report.proofs.EndLaws.{end-done, end-used-up, end-stopped}
use Rattle.std.proofs.Common.{rules}
use Rattle.report.proofs.ends.end_line.Goals as goal

pub returns-in-Done : goal.returns-in-Done
returns-in-Done c = search (rules, end-done, end-used-up, end-stopped)

pub returns-in-UsedUp : goal.returns-in-UsedUp
returns-in-UsedUp c = search (rules, end-done, end-used-up, end-stopped)
