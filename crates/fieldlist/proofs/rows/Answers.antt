-- `fieldlist::rows` meets its contract. Assumes nothing.
use Rattle.fieldlist.proofs.GoingLaws.{gone-none, gone-full, gone-wrong, gone-more, gone-all}
use Rattle.std.proofs.Common.{rules}
use Rattle.fieldlist.proofs.rows.Goals as goal

pub loop-at-init : goal.loop-at-init
loop-at-init c = gone-none _

pub returns-then-count-eq-MOST : goal.returns-then-count-eq-MOST
returns-then-count-eq-MOST c = search (rules, gone-full)

pub returns-in-Err : goal.returns-in-Err
returns-in-Err c = gone-wrong c.loop-at.invariant c.loop-at-test.true c.if-count-eq-MOST.false _ c.in-Err.ensures

pub loop-at-preserved : goal.loop-at-preserved
loop-at-preserved c = gone-more c.loop-at.invariant c.loop-at-test.true c.if-count-eq-MOST.false _ c.in-Ok.ensures

pub returns : goal.returns
returns c = gone-all c.loop-at.invariant c.loop-at-test.false
