-- `show::parts::put_object` meets its contract: the turns of its loop. Assumes nothing.
use Rattle.show.proofs.Turns.{fields-none, fields-turn}
use Rattle.std.proofs.Common.{rules}
use Rattle.show.proofs.parts.put_object.Goals as goal

pub loop-i-init : goal.loop-i-init
loop-i-init c = search (rules, fields-none)

pub loop-i-preserved : goal.loop-i-preserved
loop-i-preserved c = search (rules, fields-turn)
