-- `letters::cursor::Cursor::past_blanks` meets its contract: what is still to be passed leads where the whole does. Assumes nothing.
use Rattle.letters.proofs.PastLaws.{turned, stopped, ended}
use Rattle.letters.proofs.cursor.Cursor.past_blanks.Goals as goal

pub loop-self-preserved : goal.loop-self-preserved
loop-self-preserved c = turned c.loop-self.invariant c.loop-self-test.true c.class_of.ensures c.if-class_of-eq-BLANK.true c.line_after-self.ensures.0

pub returns-else-class_of-eq-BLANK : goal.returns-else-class_of-eq-BLANK
returns-else-class_of-eq-BLANK c = stopped c.loop-self.invariant c.loop-self-test.true c.class_of.ensures c.if-class_of-eq-BLANK.false

pub returns-after-loop-self : goal.returns-after-loop-self
returns-after-loop-self c = ended c.loop-self.invariant c.loop-self-test.false
