-- `dues::stack::put`: the words are pushed from the last to the first. Assumes nothing.
use Rattle.std.proofs.Common.{◌≤◌, [], arith}
use Rattle.dues.proofs.PileLaws.{none-piled, all-four}
use Rattle.dues.proofs.stack.put.Goals as goal

pub returns-in-1 : goal.returns-in-1
returns-in-1 c = rw c.in-1.is (c.push.ensures.by_index [] _ _ (none-piled _ _))

pub returns-in-2 : goal.returns-in-2
returns-in-2 c = rw c.in-2.is (c.push-in-2.ensures.by_index _ _ _ (c.push-p.ensures.by_index [] _ _ (none-piled _ _)))

pub returns-in-3 : goal.returns-in-3
returns-in-3 c = rw c.in-3.is (c.push-in-3.ensures.by_index _ _ _ (c.push-q.ensures.by_index _ _ _ (c.push-p-in-3.ensures.by_index [] _ _ (none-piled _ _))))

pub returns-in_default : goal.returns-in_default
returns-in_default c =
    let x = c.args.dues in
    let four : 4 ≤ x.count = omega arith in
    rw (all-four x.count x.a x.b x.c x.d four)
    (c.push-in_default.ensures.by_index _ _ _
    (c.push-s.ensures.by_index _ _ _
    (c.push-q-in_default.ensures.by_index _ _ _
    (c.push-p-in_default.ensures.by_index [] _ _ (none-piled _ _)))))
