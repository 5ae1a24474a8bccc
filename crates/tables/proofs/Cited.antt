-- The lemmas that functions name in their attributes, function by function. Assumes nothing.
use Rattle.tables.proofs.ByteLaws.{four-words}
use Rattle.tables.proofs.HeadLaws.{code-none}
use Rattle.tables.proofs.HeadLaws.{code-more}
use Rattle.tables.proofs.HeadLaws.{head-is}
use Rattle.tables.proofs.NodeLaws.{small-node}

pub ruleset bytes_put_words_lemmas = (four-words)

pub ruleset head_put_codes_lemmas = (code-none, code-more)

pub ruleset head_put_head_lemmas = (head-is)

pub ruleset nodes_put_node_lemmas = (small-node)
