-- `building::nodes::Nodes::put_passed` meets its contract. Assumes nothing.
use Rattle.building.proofs.PassedLaws.{none-sunk, next-passes, one-sunk}
use borrow.Author.Rules.{rules}
use Rattle.building.proofs.nodes.Nodes.put_passed.Goals as goal

pub loop-i-init : goal.loop-i-init
loop-i-init c = search (rules, none-sunk)

pub put_passing-requires : goal.put_passing-requires
put_passing-requires c = search (rules, next-passes)

pub loop-i-preserved : goal.loop-i-preserved
loop-i-preserved c = search (rules, one-sunk)
