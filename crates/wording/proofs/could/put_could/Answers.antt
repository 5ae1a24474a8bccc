-- `wording::could::put_could` meets its contract. One law for each turn. Assumes nothing.
use Rattle.wording.proofs.CouldLaws.{telling-none, telling-room, telling-more, telling-all}
use Rattle.std.proofs.Common.{rules}
use Rattle.wording.proofs.could.put_could.Goals as goal

pub loop-i-init : goal.loop-i-init
loop-i-init c = search (rules, telling-none)

pub loop-i-preserved : goal.loop-i-preserved
loop-i-preserved c = search (rules, telling-more)

pub returns : goal.returns
returns c = search (rules, telling-all)
