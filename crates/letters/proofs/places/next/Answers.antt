-- `letters::places::next` meets its contract. Assumes nothing.
use Rattle.letters.proofs.NextLaws.{no-blank-there, says-end, says-found}
use Rattle.std.proofs.Common.{rules}
use Rattle.letters.proofs.places.next.Goals as goal

pub piece_at-requires : goal.piece_at-requires
piece_at-requires c = search (rules, no-blank-there, says-found, says-end)

pub returns-then-start-text : goal.returns-then-start-text
returns-then-start-text c = search (rules, no-blank-there, says-found, says-end)

pub returns : goal.returns
returns c = search (rules, no-blank-there, says-found, says-end)
