-- `dues::rows::command_row`: an integer's row, with its bound in words. Assumes nothing.
use Rattle.std.proofs.Common.{◌∙◌}
use Rattle.reading.specs.Table.{row_for, commands}
use Rattle.dues.specs.Words.{due_word}
use Rattle.dues.proofs.DeedLaws.{plain-in-words}
use Rattle.dues.proofs.rows.command_row.Goals as goal

pub returns-in-3 : goal.returns-in-3
unfolding row_for commands due_word
returns-in-3 c = c.integer.ensures ∙ rw (c.one_due-in-3.ensures.result_value, c.in-3.is) (plain-in-words _ _)
