-- `building::nodes::Nodes::put` meets its contract: one node more, where there is room. Assumes nothing.
use mathlib.Core.Path.{refl}
use Rattle.building.proofs.BuildLaws.{one-node}
use Rattle.building.proofs.nodes.Nodes.put.Goals as goal

pub returns-then-self-lt-MOST_NODES : goal.returns-then-self-lt-MOST_NODES
returns-then-self-lt-MOST_NODES c =
    let s = c.args.self.now in
    (one-node s.start s.count c.args.made c.in-Some.made s.image s.firsts _ _ s.roomy c.in-Some.is c.if-self-lt-MOST_NODES.true c.put_node.ensures, refl)
