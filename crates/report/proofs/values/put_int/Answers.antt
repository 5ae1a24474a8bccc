-- `report::values::put_int` meets its contract. Three pieces in a row. Assumes nothing.
use Rattle.report.proofs.ValueLaws.{int-wrote}
use Rattle.std.proofs.Common.{rules}
use Rattle.report.proofs.values.put_int.Goals as goal

pub returns : goal.returns
returns c = search (rules, int-wrote)
