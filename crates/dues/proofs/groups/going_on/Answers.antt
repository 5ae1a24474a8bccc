-- `dues::groups::going_on`: the last number is a proc's colon. Assumes nothing.
use Rattle.std.proofs.Common.{◌≡◌, arith}
use Rattle.dues.proofs.OnlyLaws.{row-proc-colon}
use Rattle.dues.proofs.groups.going_on.Goals as goal

pub returns-in_default : goal.returns-in_default
returns-in_default c = λ t. let e : c.args.n ≡ 32 = omega arith in row-proc-colon _ _ _ t _ c.only.result c.then_two.result e c.then_two.ensures c.only.ensures
