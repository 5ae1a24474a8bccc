-- `wording::second::put_stood` meets its contract. One law for each way to tell it. Assumes nothing.
use Rattle.wording.proofs.SecondLaws.{stood-end, stood-byte, stood-place}
use Rattle.std.proofs.Common.{rules}
use Rattle.wording.proofs.second.put_stood.Goals as goal

pub returns-then-kind-eq0 : goal.returns-then-kind-eq0
returns-then-kind-eq0 c = search (rules, stood-end, stood-byte, stood-place)

pub returns-then-number-eq22 : goal.returns-then-number-eq22
returns-then-number-eq22 c = search (rules, stood-end, stood-byte, stood-place)

pub returns-else-number-eq22 : goal.returns-else-number-eq22
returns-else-number-eq22 c = search (rules, stood-end, stood-byte, stood-place)
