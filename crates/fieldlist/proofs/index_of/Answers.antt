-- `fieldlist::index_of` meets its contract. Assumes nothing.
use Rattle.fieldlist.proofs.AnswerLaws.{row-found}
use Rattle.std.proofs.Common.{rules}
use Rattle.fieldlist.proofs.index_of.Goals as goal

pub returns-clause-place : goal.returns-clause-place
returns-clause-place c = search (rules, row-found)
