-- `building::nodes::Nodes::put_passing` meets its contract: the table gives the node of what is passed, and its tag is small. Assumes nothing.
use Rattle.building.proofs.PassedLaws.{small-tag}
use borrow.Author.Rules.{rules}
use Rattle.building.proofs.nodes.Nodes.put_passing.Goals as goal

pub put-requires : goal.put-requires
put-requires c = search (rules, small-tag)
