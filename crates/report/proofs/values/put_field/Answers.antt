-- `report::values::put_field` meets its contract. The number that is written is the code, not the index. Assumes nothing.
use Rattle.report.proofs.ValueLaws.{field-wrote}
use Rattle.std.proofs.Common.{rules}
use Rattle.report.proofs.values.put_field.Goals as goal

pub returns : goal.returns
returns c = search (rules, field-wrote)
