-- `show::parts::put_objects` meets its contract: the turns of its loop. Assumes nothing.
use Rattle.show.proofs.Turns.{objects-none, objects-turn, objects-all}
use Rattle.std.proofs.Common.{rules}
use Rattle.show.proofs.parts.put_objects.Goals as goal

pub loop-o-init : goal.loop-o-init
loop-o-init c = search (rules, objects-none)

pub loop-o-preserved : goal.loop-o-preserved
loop-o-preserved c = search (rules, objects-turn)

pub returns : goal.returns
returns c = search (rules, objects-all)
