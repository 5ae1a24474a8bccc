-- `letters::runs::word_end` meets its contract: where the run from a byte on ends, that from the first one on does. Assumes nothing.
use Rattle.grammar.specs.Classes.{in_word}
use Rattle.letters.proofs.RunLaws.{Running}
use Rattle.letters.proofs.runs.word_end.Given as goal

abbrev pub invariant-loop-i : goal.invariant-loop-i
invariant-loop-i l = Running in_word l.text l.at l.i
