-- `reader::read` meets its contract: the lengths, then the list, then the text. Assumes nothing.
use Rattle.reader.proofs.ReadLaws.{says-20, says-28, says-21, says-listed, few-lent, enough-lent}
use Rattle.reader.proofs.read.Goals as goal

pub returns-then-out-lt-MOST_BYTES : goal.returns-then-out-lt-MOST_BYTES
returns-then-out-lt-MOST_BYTES c = says-20 _ _ _ _ c.if-out-lt-MOST_BYTES.true

pub returns-then-too_few : goal.returns-then-too_few
returns-then-too_few c = says-28 _ _ _ _ c.if-out-lt-MOST_BYTES.false (few-lent _ _ _ c.too_few.ensures c.if-too_few.true)

pub returns-in_default : goal.returns-in_default
returns-in_default c =
    says-21 _ _ _ _ c.rows.result c.in_default.field-0 (c.if-out-lt-MOST_BYTES.false, enough-lent _ _ _ c.too_few.ensures c.if-too_few.false) c.rows.ensures c.in_default.is

pub returns : goal.returns
returns c =
    says-listed _ _ c.in-Ok.rows c.read_listed.result _ _ _ _ c.in-Ok.ensures.says
    (c.if-out-lt-MOST_BYTES.false, enough-lent _ _ _ c.too_few.ensures c.if-too_few.false) c.read_listed.ensures
