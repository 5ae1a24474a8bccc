-- `chooser::answer::tell` meets its contract: a refusal's line and no file, or an end's line and a file. Assumes nothing.
use Rattle.chooser.proofs.AnswerLaws.{tells-refusal, tells-end}
use borrow.Author.Rules.{rules}
use Rattle.chooser.proofs.answer.tell.Goals as goal

pub returns-in-Refusal : goal.returns-in-Refusal
returns-in-Refusal c = search (rules, tells-refusal)

pub returns-in-Ending : goal.returns-in-Ending
returns-in-Ending c = search (rules, tells-end)
