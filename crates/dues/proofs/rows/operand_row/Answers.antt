-- `dues::rows::operand_row`: an integer's row, with its bound in words. Assumes nothing.
use Rattle.std.proofs.Common.{◌∙◌}
use Rattle.reading.specs.Table.{row_for, operands}
use Rattle.dues.specs.Words.{due_word}
use Rattle.dues.proofs.DeedLaws.{plain-in-words}
use Rattle.dues.proofs.rows.operand_row.Goals as goal

pub returns-in-3 : goal.returns-in-3
unfolding row_for operands due_word
returns-in-3 c = λ ds e. c.integer.ensures ∙ rw (c.in-3.is, e) (plain-in-words _ _)
