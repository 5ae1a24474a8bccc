-- `encoder::answer::bad_text` meets its contract. Two lines. Assumes nothing.
use Rattle.encoder.proofs.AnswerLaws.{bad-text-wrote, part_filled}
use Rattle.encoder.proofs.answer.bad_text.Goals as goal

pub second_line-requires-clause-le_number : goal.second_line-requires-clause-le_number
second_line-requires-clause-le_number c = (c.requires.shows.least, c.requires.shows.most)

pub second_line-requires-clause-place_nonzero : goal.second_line-requires-clause-place_nonzero
second_line-requires-clause-place_nonzero c = part_filled _ _ c.requires.shows

pub returns : goal.returns
returns c = bad-text-wrote c.args.text.now c.args.w _ _ _ c.refused_line.ensures c.second_line.ensures
