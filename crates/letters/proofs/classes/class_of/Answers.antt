-- `letters::classes::class_of` meets its contract, by the table's rule. Assumes nothing.
use Rattle.letters.proofs.ClassLaws.{class-at}
use Rattle.std.proofs.Common.{rules}
use Rattle.letters.proofs.classes.class_of.Goals as goal

pub returns : goal.returns
returns c = search (rules, class-at)
