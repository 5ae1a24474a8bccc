-- `encoder::answer::answer` meets its contract. One law for each way. Assumes nothing.
use Rattle.std.proofs.Common.{arith}
use Rattle.encoder.proofs.AnswerLaws.{answers-no-text, answers-no-list, answers-long-text, answers-long-list, answers-encoded}
use Rattle.encoder.proofs.answer.answer.Goals as goal
use Rattle.encoder.proofs.answer.answer.Goals.{in_default-via-in-Some+in_default, in_default-via-in_default}

pub returns-in_default : goal.returns-in_default
returns-in_default c = elim c.in_default.branch [
  | in_default-via-in-Some+in_default w ↦ answers-no-list _ _ _ _ _ _ _ w.in_default.is-0 w.in_default.is-1 c.no_input.ensures
  | in_default-via-in_default w ↦ answers-no-text _ _ _ _ _ _ w.in_default.is-0 c.no_input.ensures
]

pub returns-then-text-gt-MOST_TEXT : goal.returns-then-text-gt-MOST_TEXT
returns-then-text-gt-MOST_TEXT c =
    answers-long-text _ _ _ _ _ _ _ _ c.in-Some-Some.is-0 c.in-Some-Some.is-1 c.if-text-gt-MOST_TEXT.true c.text_too_long.ensures

pub returns-then-list-gt-MOST_LIST : goal.returns-then-list-gt-MOST_LIST
returns-then-list-gt-MOST_LIST c =
    answers-long-list _ _ _ _ _ _ _ _ c.in-Some-Some.is-0 c.in-Some-Some.is-1 (omega (arith, c.if-text-gt-MOST_TEXT.false)) c.if-list-gt-MOST_LIST.true c.list_too_long.ensures

pub returns : goal.returns
returns c = answers-encoded _ _ _ _ _ _ _ _ c.in-Some-Some.is-0 c.in-Some-Some.is-1 _ _ c.encoding.ensures
