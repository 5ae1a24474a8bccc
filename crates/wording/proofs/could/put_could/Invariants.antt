-- `wording::could::put_could` meets its contract. The invariant of its loop: the words of the first i rows stand. Assumes nothing.
use Rattle.wording.proofs.CouldLaws.{Telling}
use Rattle.wording.proofs.could.put_could.Given as goal

abbrev pub invariant-loop-i : goal.invariant-loop-i
invariant-loop-i l = Telling l.could l.initial.page l.i l.count l.page
