-- `report::ends::stop_line` meets its contract. One law for each kind of stop. Assumes nothing.
use Rattle.report.proofs.EndLaws.{stop-fault, stop-room, stop-range, stop-no-rule}
use Rattle.std.proofs.Common.{rules}
use Rattle.report.proofs.ends.stop_line.Goals as goal

pub returns-in-OutOfRange : goal.returns-in-OutOfRange
returns-in-OutOfRange c = search (rules, stop-fault, stop-room, stop-range, stop-no-rule)

pub returns-in-NoRule : goal.returns-in-NoRule
returns-in-NoRule c = search (rules, stop-fault, stop-room, stop-range, stop-no-rule)
