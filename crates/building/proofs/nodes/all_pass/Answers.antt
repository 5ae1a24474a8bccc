-- `building::nodes::all_pass` meets its contract: the end has got as far as the last i things due. Assumes nothing.
use Rattle.building.proofs.PassedLaws.{may-not-end}
use Rattle.dues.proofs.StackLaws.{looking, next-is-due, passed_on}
use borrow.Author.Rules.{rules}
use Rattle.std.proofs.Common.{arith}
use Rattle.building.proofs.nodes.all_pass.Goals as goal

pub loop-i-init : goal.loop-i-init
loop-i-init c = search (rules, looking)

pub does-requires-clause-due : goal.does-requires-clause-due
does-requires-clause-due c = search (rules, next-is-due)

pub loop-i-preserved : goal.loop-i-preserved
loop-i-preserved c = search (rules, passed_on)

pub returns-in_default : goal.returns-in_default
returns-in_default c = may-not-end c.args.work.now c.args.depth c.loop-i.i c.does.result c.loop-i.invariant (omega arith) c.does.ensures c.in_default.not-Pass
