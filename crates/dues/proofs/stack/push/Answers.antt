-- `dues::stack::push`: one word more. Assumes nothing.
use Rattle.dues.proofs.PileLaws.{piled-more}
use Rattle.dues.proofs.stack.push.Goals as goal

pub returns-clause-by_index : goal.returns-clause-by_index
returns-clause-by_index c = λ vs m entry p. piled-more vs m _ _ entry _ p c.requires
