-- `report::values::put_value` meets its contract. One law for each kind of value. Assumes nothing.
use Rattle.report.proofs.ValueLaws.{value-nothing, value-null, value-int, value-field, value-object, value-proc, value-unset}
use Rattle.std.proofs.Common.{rules}
use Rattle.report.proofs.values.put_value.Goals as goal

pub returns-in-Nothing : goal.returns-in-Nothing
returns-in-Nothing c = search (rules, value-nothing, value-null, value-int, value-field, value-object, value-proc, value-unset)

pub returns-in-Null : goal.returns-in-Null
returns-in-Null c = search (rules, value-nothing, value-null, value-int, value-field, value-object, value-proc, value-unset)

pub returns-in-Int : goal.returns-in-Int
returns-in-Int c = search (rules, value-nothing, value-null, value-int, value-field, value-object, value-proc, value-unset)

pub returns-in-Object : goal.returns-in-Object
returns-in-Object c = search (rules, value-nothing, value-null, value-int, value-field, value-object, value-proc, value-unset)

pub returns-in-Proc : goal.returns-in-Proc
returns-in-Proc c = search (rules, value-nothing, value-null, value-int, value-field, value-object, value-proc, value-unset)

pub returns-in-Unset : goal.returns-in-Unset
returns-in-Unset c = search (rules, value-nothing, value-null, value-int, value-field, value-object, value-proc, value-unset)
