-- `letters::kinds::number_of_word` meets its contract: what is packed is the end of the word. Assumes nothing.
use Rattle.letters.proofs.KindLaws.{packs-none, packs-few, packs-on, packs-all}
use Rattle.std.proofs.Common.{◌-◌, arith}
use Rattle.letters.proofs.kinds.number_of_word.Goals as goal

pub loop-i-init : goal.loop-i-init
loop-i-init c = packs-none

pub overflow_mul-n : goal.overflow_mul-n
overflow_mul-n c = omega (arith, packs-few c.loop-i.invariant c.loop-i-test.true c.requires)

pub overflow_add-n : goal.overflow_add-n
overflow_add-n c = omega (arith, packs-few c.loop-i.invariant c.loop-i-test.true c.requires, c.from.ensures, c.type_inv.word (c.loop-i.i - 1))

pub loop-i-preserved : goal.loop-i-preserved
loop-i-preserved c = packs-on c.loop-i.invariant c.loop-i-test.true c.from.ensures (omega (arith, c.from.ensures, c.type_inv.word (c.loop-i.i - 1)))

pub returns : goal.returns
returns c = packs-all c.loop-i.invariant (omega arith)
