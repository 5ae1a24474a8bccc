-- `letters::kinds::number_of_word` meets its contract: what is packed is the end of the word. Assumes nothing.
use Rattle.letters.proofs.KindLaws.{Packing}
use Rattle.letters.proofs.kinds.number_of_word.Given as goal

abbrev pub invariant-loop-i : goal.invariant-loop-i
invariant-loop-i l = Packing l.word l.i l.n
