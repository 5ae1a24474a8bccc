-- No name before this one is the word. Assumes nothing.
use Rattle.fieldlist.proofs.SameLaws.{Seeking}
use Rattle.fieldlist.proofs.names.name_index.Given as goal

abbrev pub invariant-loop-i : goal.invariant-loop-i
invariant-loop-i l = Seeking l.word l.text l.names l.i
