-- `reader::why::takes` meets its contract. Assumes nothing.
use Rattle.reader.proofs.TakingLaws.{kind-says}
use Rattle.reader.proofs.why.takes.Goals as goal

pub returns : goal.returns
returns c = rw c.is_some.ensures (kind-says c.args.depth c.args.work.now c.args.k c.taker.result c.taker.ensures)
