-- `letters::places::name_at` meets its contract. Assumes nothing.
use Rattle.letters.proofs.PieceLaws.{name-stands}
use Rattle.std.proofs.Common.{rules}
use Rattle.letters.proofs.places.name_at.Goals as goal

pub returns : goal.returns
returns c = search (rules, name-stands)
