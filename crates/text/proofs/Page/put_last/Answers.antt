-- `text::Page::put_last` meets its contract. The pair, and the end of the line. Assumes nothing.
use Rattle.text.proofs.WroteLaws.{last-adds}
use Rattle.std.proofs.Common.{rules}
use Rattle.text.proofs.Page.put_last.Goals as goal

pub returns : goal.returns
returns c = search (rules, last-adds)
