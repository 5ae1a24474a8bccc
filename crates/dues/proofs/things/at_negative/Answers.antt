-- `dues::things::at_negative`: the digits behind a sign, with their bound in words. Assumes nothing.
use Rattle.std.proofs.Common.{◌∙◌}
use Rattle.reading.specs.Table.{row_for, does}
use Rattle.dues.specs.Words.{due_word}
use Rattle.dues.proofs.DeedLaws.{signed-in-words}
use Rattle.dues.proofs.things.at_negative.Goals as goal

pub returns-in-3 : goal.returns-in-3
unfolding row_for does due_word
returns-in-3 c = c.negative_integer.ensures ∙ rw c.in-3.is (signed-in-words _ _)
