-- `report::ends::fault_line` meets its contract. Three pieces in a row. Assumes nothing.
use Rattle.report.proofs.EndLaws.{fault-wrote}
use Rattle.std.proofs.Common.{rules}
use Rattle.report.proofs.ends.fault_line.Goals as goal

pub returns : goal.returns
returns c = search (rules, fault-wrote)
