-- `letters::runs::number_end` meets its contract: where the run from a byte on ends, that from the first one on does. Assumes nothing.
use Rattle.grammar.specs.Classes.{is_digit}
use Rattle.letters.proofs.RunLaws.{Running}
use Rattle.letters.proofs.runs.number_end.Given as goal

abbrev pub invariant-loop-i : goal.invariant-loop-i
invariant-loop-i l = Running is_digit l.text l.at l.i
