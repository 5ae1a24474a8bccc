-- `building::nodes::Nodes::put_passed` meets its contract: so far the nodes of all but the last i things due are put. Assumes nothing.
use Rattle.building.proofs.PassedLaws.{Sunk}
use Rattle.building.proofs.nodes.Nodes.put_passed.Given as goal

abbrev pub invariant-loop-i : goal.invariant-loop-i
invariant-loop-i l = Sunk l.work l.depth l.floor l.kind l.i l.initial.self l.self
