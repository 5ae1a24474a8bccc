-- `building::nodes::Nodes::new` meets its contract: there is room for all nodes. Assumes nothing.
use native.Mathlib.Omega.{arith}
use Rattle.building.proofs.BuildLaws.{none-roomy}
use Rattle.building.proofs.nodes.Nodes.new.Goals as goal

pub invariant_of-result : goal.invariant_of-result
invariant_of-result c = record { roomy = none-roomy c.args.start c.requires; few = omega arith }
