-- What a caller in C or Rust is told of a written script (order 1 of document 02): the reader's answer as numbers, and how many words
-- to lend. An image has no number and no line, a refusal no length: each is 0 there, which means nothing, and zeros alone are no
-- answer. Lines count from 1; the order gives a refusal that no line of the text is the reason of line 0. Assumes nothing.
use Rattle.std.specs.Prelude.{ℕ, ◌≡◌, cond, Result, Ok, Err, List, leb}
use Rattle.grammar.specs.Reads.{words_for}
use Rattle.reader.specs.declared.ReadError.{ReadError}
use Rattle.reader.specs.Says.{ReadSays}
pub use Rattle.told.specs.declared.Written.{Written}

unfoldable pub written_of : Result ℕ ReadError → Written
written_of (Ok n) = record { verdict = 1; number = 0; line = 0; length = n }
written_of (Err e) = record { verdict = 2; number = e.number; line = e.line; length = 0 }

-- the answer, every byte of the output and every lent word are those of a reading
pub record TellsReading (list text : List ℕ) (told : Written) (ws out ws' out' : List ℕ) : Type 0 where
  pub reading : Result ℕ ReadError
  pub is : told ≡ written_of reading
  pub says : ReadSays list text reading ws out ws' out'

-- ---- the words to lend

-- the largest number of 64 bits
unfoldable pub largest : ℕ
largest = 18446744073709551615

-- as many as the order's reader asks for, or the largest number, whichever is less
unfoldable pub words_asked : ℕ → ℕ
words_asked n = cond (leb (words_for n) largest) (words_for n) largest
