use Rattle.namecheck.proofs.Shapes.{row-some}
use Rattle.checklaws.proofs.Counting.{counts-most, node_counts}
use Rattle.usecheck.proofs.count_node.Goals as goal

pub tick_words-requires : goal.tick_words-requires
tick_words-requires c = counts-most _ _ _ c.requires.small c.requires.counts

pub returns-in-Some : goal.returns-in-Some
returns-in-Some c =
    node_counts _ _ _ c.read-node.ensures.is _ c.requires.counts _ _
    (row-some _ _ _ c.operands.ensures c.in-Some.is) c.tick_words.ensures
