-- `dues::stack::does`: a word's number decides which group it belongs to, and its parts are those of its thing due. Assumes nothing.
use Rattle.std.proofs.Common.{arith}
use Rattle.dues.proofs.WordLaws.{due-parts, apart-done}
use Rattle.dues.proofs.stack.does.Goals as goal

pub beginning-requires-clause-le_n : goal.beginning-requires-clause-le_n
beginning-requires-clause-le_n c = let p = (due-parts _ c.requires.due).1 in (p.some_number, omega arith, p.small-name)

pub returns-then-n-lt8 : goal.returns-then-n-lt8
returns-then-n-lt8 c = apart-done _ _ _ c.beginning.result (c.beginning.ensures _)

pub returns-then-n-lt14 : goal.returns-then-n-lt14
returns-then-n-lt14 c = apart-done _ _ _ c.ending.result (c.ending.ensures _)

pub testing-requires : goal.testing-requires
testing-requires c = let p = (due-parts _ c.requires.due).1 in (omega arith, omega arith, p.small-name)

pub returns-then-n-lt20 : goal.returns-then-n-lt20
returns-then-n-lt20 c = apart-done _ _ _ c.testing.result (c.testing.ensures _)

pub returns-then-n-lt26 : goal.returns-then-n-lt26
returns-then-n-lt26 c = apart-done _ _ _ c.selecting.result (c.selecting.ensures _ _)

pub going_on-requires-clause-le_n : goal.going_on-requires-clause-le_n
going_on-requires-clause-le_n c = let p = (due-parts _ c.requires.due).1 in (omega arith, p.last-number, p.small-name)

pub returns : goal.returns
returns c = apart-done _ _ _ c.going_on.result (c.going_on.ensures _)
