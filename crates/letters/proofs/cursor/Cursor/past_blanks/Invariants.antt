-- What is still to be passed leads where the whole does. Assumes nothing.
use Prim.Native.Nat.{◌-◌}
use lib.ListN.{length}
use Rattle.letters.proofs.PastLaws.{Passing}
use Rattle.letters.proofs.cursor.Cursor.past_blanks.Given as goal

abbrev pub invariant-loop-self : goal.invariant-loop-self
invariant-loop-self l = Passing l.text l.fn.self.at l.fn.self.line l.self.at l.self.line

abbrev pub decreases-loop-self : goal.decreases-loop-self
decreases-loop-self l = length l.text - l.self.at
