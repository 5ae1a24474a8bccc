use Rattle.checklaws.proofs.Places.{found}
use Rattle.checklaws.proofs.Words.{use-bad}
use Rattle.usecheck.proofs.lowest_use.Goals as goal

pub returns-then-not-is_well_used : goal.returns-then-not-is_well_used
returns-then-not-is_well_used c =
    found _ _ _ _ _ _ _ c.loop-n.invariant.last c.loop-n.invariant.none
    (use-bad _ _ _ c.is_well_used.ensures c.if-not-is_well_used.true) c.loop-n-test.true
