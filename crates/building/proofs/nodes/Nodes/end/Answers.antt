-- `building::nodes::Nodes::end` meets its contract: the whole stack is passed, or the text may not end. Assumes nothing.
use Rattle.building.proofs.FinishLaws.{there, too_many, few-enough}
use Rattle.std.proofs.Common.{ap, not}
use Rattle.building.proofs.nodes.Nodes.end.Goals as goal

pub returns-then-self-gt-MOST_NODES : goal.returns-then-self-gt-MOST_NODES
returns-then-self-gt-MOST_NODES c =
    let q = c.all_pass in
    too_many c.args.depth c.args.work.now c.args.self.now _ c.requires
    (there c.args.depth c.args.work.now q.result q.ensures (ap not c.if-not-all_pass.false)) c.put_passed.ensures c.if-self-gt-MOST_NODES.true

pub returns : goal.returns
returns c =
    let q = c.all_pass in
    few-enough c.args.depth c.args.work.now c.args.self.now _ c.requires
    (there c.args.depth c.args.work.now q.result q.ensures (ap not c.if-not-all_pass.false)) c.put_passed.ensures c.if-self-gt-MOST_NODES.false
