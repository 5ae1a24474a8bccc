-- `encoder::answer::bad_list` meets its contract. Two lines. Assumes nothing.
use Rattle.encoder.proofs.AnswerLaws.{bad-list-wrote}
use Rattle.encoder.proofs.answer.bad_list.Goals as goal

pub returns : goal.returns
returns c = bad-list-wrote c.args.bad.row _ _ _ _ c.refused_line.ensures c.row_line.ensures
