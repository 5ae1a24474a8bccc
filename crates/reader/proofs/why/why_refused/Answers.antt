-- `reader::why::why_refused` meets its contract: the text is read, the kinds are asked of the stack where the reading ended, and the words are cleared. Assumes
-- nothing.
use Rattle.reader.proofs.ReadLaws.{told-of}
use Rattle.reader.proofs.WhyLaws.{told-why}
use Rattle.reader.proofs.why.why_refused.Goals as goal

pub returns : goal.returns
returns c =
    rw c.told.ensures
    (told-why c.args.list.now c.args.text.now c.args.rows.now _ c.read_all-read.result c.read_all-read.new.self c.args.work.now _ _ _ c.kinds-could.result
    (told-of c.new-reading.ensures c.read_all-read.ensures) c.kinds-could.ensures c.new-reading.ensures.past c.clear.ensures)
