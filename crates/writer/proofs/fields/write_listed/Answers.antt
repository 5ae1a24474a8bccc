-- `writer::fields::write_listed` meets its contract. Assumes nothing.
use Rattle.writer.proofs.AnswerLaws.{list_stands}
use Rattle.writer.proofs.fields.write_listed.Goals as goal

pub new-requires-2 : goal.new-requires-2
new-requires-2 c = list_stands _ _ c.rows.ensures _ _ c.in-Ok.is _ c.same_codes.ensures c.if-not-same_codes.false
