-- `wording::could::put_item` meets its contract: the word alone, or behind a comma. Assumes nothing.
use Rattle.wording.proofs.CouldLaws.{item-first, item-next}
use Rattle.std.proofs.Common.{rules}
use Rattle.wording.proofs.could.put_item.Goals as goal

pub returns-then-count-eq0 : goal.returns-then-count-eq0
returns-then-count-eq0 c = search (rules, item-first)

pub returns-else-count-eq0 : goal.returns-else-count-eq0
returns-else-count-eq0 c = search (rules, item-next)
