-- `building::finish::narrow` meets its contract: so far the first i codes are words. Assumes nothing.
use Rattle.building.proofs.FinishLaws.{one-narrowed}
use borrow.Author.Rules.{rules}
use Rattle.building.proofs.finish.narrow.Goals as goal

pub loop-i-preserved : goal.loop-i-preserved
loop-i-preserved c = search (rules, one-narrowed)
