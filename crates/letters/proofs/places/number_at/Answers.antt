-- `letters::places::number_at` meets its contract. Assumes nothing.
use Rattle.letters.proofs.PieceLaws.{number-stands}
use Rattle.std.proofs.Common.{rules}
use Rattle.letters.proofs.places.number_at.Goals as goal

pub returns : goal.returns
returns c = search (rules, number-stands)
