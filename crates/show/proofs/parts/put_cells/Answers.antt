-- `show::parts::put_cells` meets its contract: the turns of its loop. Assumes nothing.
use Rattle.show.proofs.Turns.{cells-none, cells-turn, cells-all}
use Rattle.std.proofs.Common.{rules}
use Rattle.show.proofs.parts.put_cells.Goals as goal

pub loop-k-init : goal.loop-k-init
loop-k-init c = search (rules, cells-none)

pub loop-k-preserved : goal.loop-k-preserved
loop-k-preserved c = search (rules, cells-turn)

pub returns : goal.returns
returns c = search (rules, cells-all)
