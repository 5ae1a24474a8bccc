-- `tables::nodes::of_item` meets its contract. Assumes nothing.
use borrow.Author.Rules.{rules}
use Rattle.tables.proofs.NodeLaws.{no_row}
use Rattle.tables.proofs.nodes.of_item.Goals as goal

pub returns-in-None : goal.returns-in-None
returns-in-None c = search (rules, no_row)
