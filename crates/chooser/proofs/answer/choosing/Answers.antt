-- `chooser::answer::choosing` meets its contract, by what the fair run says and what is told of it. Assumes nothing.
use Rattle.chooser.proofs.AnswerLaws.{answers-run}
use borrow.Author.Rules.{rules}
use Rattle.chooser.proofs.answer.choosing.Goals as goal

pub returns : goal.returns
returns c = search (rules, answers-run)
