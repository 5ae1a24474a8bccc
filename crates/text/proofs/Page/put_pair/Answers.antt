-- `text::Page::put_pair` meets its contract. Three pieces in a row. Assumes nothing.
use Rattle.text.proofs.WroteLaws.{pair-adds}
use Rattle.std.proofs.Common.{rules}
use Rattle.text.proofs.Page.put_pair.Goals as goal

pub returns : goal.returns
returns c = search (rules, pair-adds)
