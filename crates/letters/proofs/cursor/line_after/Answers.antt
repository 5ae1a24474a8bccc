-- `letters::cursor::line_after` meets its contract. Assumes nothing.
use Rattle.letters.proofs.PastLaws.{line-ends, line_stays}
use Rattle.std.proofs.Common.{rules}
use Rattle.letters.proofs.cursor.line_after.Goals as goal

pub returns-then-b-eq10 : goal.returns-then-b-eq10
returns-then-b-eq10 c = search (rules, line-ends, line_stays)

pub returns-else-b-eq10 : goal.returns-else-b-eq10
returns-else-b-eq10 c = search (rules, line-ends, line_stays)
