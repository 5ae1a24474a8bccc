-- `chooser::answer::answer` meets its contract: a missing file, or a script that is there. Assumes nothing.
use Rattle.chooser.proofs.AnswerLaws.{answers-missing, answers-there}
use Rattle.chooser.proofs.answer.answer.Goals as goal

pub returns-in_default : goal.returns-in_default
returns-in_default c = answers-missing _ _ _ _ c.in_default.is c.no_input.ensures

pub returns : goal.returns
returns c = answers-there _ _ _ _ _ _ _ c.in-Some.is c.choosing.ensures
