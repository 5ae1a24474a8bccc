-- `dues::stack::taker`: the token has got as far as the last i things due. Assumes nothing.
use Rattle.std.proofs.Common.{rules, arith}
use Rattle.dues.proofs.StackLaws.{looking, next-is-due, passed_on, taken-there, refused-there, nothing_left}
use Rattle.dues.proofs.stack.taker.Goals as goal

pub loop-i-init : goal.loop-i-init
loop-i-init c = search (rules, looking)

pub does-requires-clause-due : goal.does-requires-clause-due
does-requires-clause-due c = search (rules, next-is-due)

pub returns-in-Take : goal.returns-in-Take
returns-in-Take c = search (rules, taken-there)

pub loop-i-preserved : goal.loop-i-preserved
loop-i-preserved c = search (rules, passed_on)

pub returns-in-Refuse : goal.returns-in-Refuse
returns-in-Refuse c = search (rules, refused-there)

pub returns : goal.returns
returns c = nothing_left _ _ _ _ c.loop-i.invariant (omega arith)
