-- `report::values::put_chain` meets its contract. One law for each kind of chain. Assumes nothing.
use Rattle.report.proofs.ValueLaws.{chain-none, chain-frame}
use Rattle.std.proofs.Common.{rules}
use Rattle.report.proofs.values.put_chain.Goals as goal

pub returns-in-Empty : goal.returns-in-Empty
returns-in-Empty c = search (rules, chain-none)

pub returns-in-From : goal.returns-in-From
returns-in-From c = search (rules, chain-frame)
