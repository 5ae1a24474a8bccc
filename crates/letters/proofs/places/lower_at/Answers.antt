-- `letters::places::lower_at` meets its contract. Assumes nothing.
use Rattle.letters.proofs.PieceLaws.{lower-stands-so}
use Rattle.letters.proofs.places.lower_at.Goals as goal

pub returns : goal.returns
returns c = lower-stands-so _ _ _ _ c.requires.0 _ _ c.requires.1 c.word_end-to.ensures.0 c.word_end-to.ensures.1 c.from.ensures c.kind_of_word.ensures
