-- `text::Page::put_decimal` meets its contract. The digits are those of `io::decimal`, whose count is the fewest. Assumes nothing.
use Rattle.text.proofs.DecimalLaws.{decimal-adds}
use Rattle.std.proofs.Common.{rules}
use Rattle.text.proofs.Page.put_decimal.Goals as goal

pub returns : goal.returns
returns c = search (rules, decimal-adds)
