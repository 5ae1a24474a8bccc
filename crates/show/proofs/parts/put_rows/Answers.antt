-- `show::parts::put_rows` meets its contract: the turns of its loop. Assumes nothing.
use Rattle.show.proofs.Turns.{rows_none, rows-turn}
use Rattle.std.proofs.Common.{rules}
use Rattle.show.proofs.parts.put_rows.Goals as goal

pub loop-i-init : goal.loop-i-init
loop-i-init c = search (rules, rows_none)

pub loop-i-preserved : goal.loop-i-preserved
loop-i-preserved c = search (rules, rows-turn)
