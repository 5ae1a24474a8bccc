-- `wording::second::place_line` meets its contract. Four pieces in a row. Assumes nothing.
use Rattle.wording.proofs.SecondLaws.{place-wrote}
use Rattle.std.proofs.Common.{rules}
use Rattle.wording.proofs.second.place_line.Goals as goal

pub returns : goal.returns
returns c = search (rules, place-wrote)
