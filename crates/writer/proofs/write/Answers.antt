-- `writer::write` meets its contract. Assumes nothing.
use Rattle.writer.proofs.AnswerLaws.{refused_image}
use Rattle.writer.proofs.write.Goals as goal

pub returns-in_default : goal.returns-in_default
returns-in_default c = refused_image _ _ c.check.ensures.says _ _ _ c.in_default.is
