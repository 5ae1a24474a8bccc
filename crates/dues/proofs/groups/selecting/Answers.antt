-- `dues::groups::selecting`: an expression is its thing due. Assumes nothing.
use Rattle.std.proofs.Common.{◌≡◌, ◌∙◌, arith}
use Rattle.reading.specs.Table.{row_for, does}
use Rattle.dues.specs.Words.{due_by, things, due_word}
use Rattle.dues.proofs.groups.selecting.Goals as goal

pub returns-in_default : goal.returns-in_default
unfolding due_by things does row_for due_word
returns-in_default c = λ t x. let e : c.args.n ≡ 25 = omega arith in c.at_expression.ensures ∙ rw e
