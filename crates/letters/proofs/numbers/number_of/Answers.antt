-- `letters::numbers::number_of` meets its contract: what is summed and what is left make the whole number. Assumes nothing.
use Rattle.letters.proofs.NumberLaws.{sums_none, sums-next, sums-over}
use Rattle.letters.proofs.numbers.number_of.Goals as goal

pub loop-b-init : goal.loop-b-init
loop-b-init c = sums_none _ _ _ c.requires.0

pub loop-b-preserved : goal.loop-b-preserved
loop-b-preserved c = sums-next c.loop-b.invariant c.loop-b-test.true c.requires.0 c.requires.1 c.with_digit-n.ensures

pub returns : goal.returns
returns c = sums-over c.loop-b.invariant c.loop-b-test.false c.requires.0 c.requires.1
