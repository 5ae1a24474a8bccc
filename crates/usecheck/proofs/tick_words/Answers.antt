use Rattle.checklaws.proofs.Counting.{room-second, room-third}
use Rattle.usecheck.proofs.tick_words.Goals as goal

pub tick-requires-2 : goal.tick-requires-2
tick-requires-2 c = room-second _ _ _ _ c.tick.ensures c.requires

pub tick-requires-3 : goal.tick-requires-3
tick-requires-3 c = room-third c.tick-2.ensures c.tick.ensures c.requires
