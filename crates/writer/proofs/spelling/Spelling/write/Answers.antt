-- `writer::spelling::Spelling::write` meets its contract: the text as long as it was counted. Assumes nothing.
use Rattle.std.proofs.Common.{rules}
use Rattle.writer.proofs.TextLaws.{text_says}
use Rattle.writer.proofs.spelling.Spelling.write.Goals as goal

pub returns : goal.returns
returns c = text_says _ _ _ _ c.length.ensures c.put_text.ensures c.in-Some.is c.new-pen.ensures.most c.new-pen.ensures.same_bytes (search rules)
