-- `tables::nodes::put_node` meets its contract. Assumes nothing.
use borrow.Author.Rules.{rules}
use Rattle.tables.proofs.NodeLaws.{puts}
use Rattle.tables.proofs.nodes.put_node.Goals as goal

pub returns : goal.returns
returns c = search (rules, puts)
