-- `pen::store_all` meets its contract: the bytes that stand there are stored. Assumes nothing.
use Rattle.std.proofs.Common.{◌∙◌, arith}
use Rattle.pen.proofs.RunLaws.{sets-front}
use Rattle.pen.proofs.store_all.Goals as goal

pub returns : goal.returns
returns c =
    c.loop-k.invariant.is
    ∙ sets-front c.args.bytes.now c.args.out.now c.args.at c.loop-k.k
    (omega (arith, c.min-count.ensures, c.saturating_sub.ensures, c.loop-k-test.false))
