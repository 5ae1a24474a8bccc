-- `letters::kinds::kind_of_word` meets its contract: a word of more than six bytes is not reserved, and one of at most six is told by its number. Assumes nothing.
use Rattle.letters.proofs.KindLaws.{long-kind, short-kind}
use Rattle.std.proofs.Common.{rules}
use Rattle.letters.proofs.kinds.kind_of_word.Goals as goal

pub returns-then-word-gt-LONGEST : goal.returns-then-word-gt-LONGEST
returns-then-word-gt-LONGEST c = search (rules, long-kind, short-kind)

pub returns : goal.returns
returns c = search (rules, long-kind, short-kind)
