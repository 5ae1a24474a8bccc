-- `wording::could::tell` meets its contract. The word is told, or nothing is written. Assumes nothing.
use Rattle.wording.proofs.CouldLaws.{told-not, told-so}
use Rattle.std.proofs.Common.{rules}
use Rattle.wording.proofs.could.tell.Goals as goal

pub returns-then-not-tells : goal.returns-then-not-tells
returns-then-not-tells c = search (rules, told-not)

pub returns : goal.returns
returns c = search (rules, told-so)
