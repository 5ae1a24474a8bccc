-- `fieldlist::names::name_index` meets its contract. Assumes nothing.
use Rattle.fieldlist.proofs.SameLaws.{sought-none, sought-more, found, in-no-row}
use Rattle.fieldlist.proofs.names.name_index.Goals as goal

pub loop-i-init : goal.loop-i-init
loop-i-init c = sought-none

pub returns-then-eq-clause-place : goal.returns-then-eq-clause-place
returns-then-eq-clause-place c = found c.requires c.loop-i.invariant c.loop-i-test.true c.eq.ensures c.if-eq.true

pub loop-i-preserved : goal.loop-i-preserved
loop-i-preserved c = sought-more c.requires c.loop-i.invariant c.loop-i-test.true c.eq.ensures c.if-eq.false

pub returns-clause-place : goal.returns-clause-place
returns-clause-place c = in-no-row c.loop-i.invariant c.loop-i-test.false
