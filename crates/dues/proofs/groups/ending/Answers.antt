-- `dues::groups::ending`: the middle of a parallel is its thing due. Assumes nothing.
use Rattle.std.proofs.Common.{◌∙◌}
use Rattle.reading.specs.Table.{row_for, does}
use Rattle.dues.specs.Words.{due_by, things, due_word}
use Rattle.dues.proofs.groups.ending.Goals as goal

pub returns-in-8 : goal.returns-in-8
unfolding due_by things does row_for due_word
returns-in-8 c = λ v. c.at_middle.ensures v ∙ rw c.in-8.is
