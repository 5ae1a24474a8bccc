-- `letters::places::piece_at` meets its contract, by the class of the byte. Assumes nothing.
use Rattle.letters.proofs.PieceLaws.{bad-stands}
use Rattle.std.proofs.Common.{rules}
use Rattle.letters.proofs.places.piece_at.Goals as goal

pub returns-in_default : goal.returns-in_default
returns-in_default c = search (rules, bad-stands)
