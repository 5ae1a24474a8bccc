-- `put_child`, `put_node` and `put_word`: the children fall. Assumes nothing.
use Rattle.std.proofs.Common.{◌+◌, ◌*◌}
use Rattle.writer.specs.Walk.{word_weight}
use Rattle.writer.proofs.spelling.Spelling.+put_child_put_node_put_word.Given as goal

abbrev pub decreases-put_child : goal.decreases-put_child
decreases-put_child l = 3 * l.w + 2

abbrev pub decreases-put_node : goal.decreases-put_node
decreases-put_node l = 3 * l.n + 1

abbrev pub decreases-put_word : goal.decreases-put_word
decreases-put_word l = word_weight l.how l.w
