-- `report::values::put_proc` meets its contract. Two pieces in a row. Assumes nothing.
use Rattle.report.proofs.ValueLaws.{proc-wrote}
use Rattle.std.proofs.Common.{rules}
use Rattle.report.proofs.values.put_proc.Goals as goal

pub returns : goal.returns
returns c = search (rules, proc-wrote)
