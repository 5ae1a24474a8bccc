-- `encoder::answer::encoding` meets its contract: the image, or a refusal. Assumes nothing.
use native.Mathlib.Omega.{arith}
use Rattle.encoder.proofs.AnswerLaws.{encoded-image, reader-refuses, encoded-refusal}
use Rattle.encoder.proofs.answer.encoding.Goals as goal

pub refusal-requires-clause-refused : goal.refusal-requires-clause-refused
refusal-requires-clause-refused c =
    reader-refuses c.args.name.now _ _ _ c.args.page.now c.requires.short c.read.result _ _ _ _ c.read.ensures c.in-Err.is c.requires.lent_bytes_in_bounds (omega (arith, c.lent_words-work.ensures))

pub refusal-requires-clause-lent_words_in_bounds : goal.refusal-requires-clause-lent_words_in_bounds
refusal-requires-clause-lent_words_in_bounds c = omega (arith, c.lent_words-work.ensures, c.read.auto.work)

pub returns-in-Ok : goal.returns-in-Ok
returns-in-Ok c =
    encoded-image _ _ _ _ _ c.requires.short c.read.result _ _ _ _ _ c.requires.name_len_bound c.read.ensures c.in-Ok.is c.image_line.ensures

pub returns-in-Err : goal.returns-in-Err
returns-in-Err c =
    encoded-refusal _ _ _ _ _ c.requires.short c.read.result _ _ _ _ c.read.ensures c.in-Err.is _ c.refusal.ensures
