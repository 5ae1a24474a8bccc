-- The kinds of words and symbols by the tables of their spellings, and the number by which the reader knows a short word. Assumes nothing.
use Rattle.std.specs.Prelude.{ℕ, ◌+◌, ◌*◌, ◌<◌, cond, List, [], ◌∷◌, eqb}
use Rattle.std.proofs.Math.Option.{Option, none, some}
use Rattle.grammar.specs.Classes.{is_digit}
use Rattle.grammar.specs.Tokens.{Spelling, spelling, reserved, single, double, spelled}
use Rattle.grammar.specs.Places.{paired}

-- ---- a word that begins with a lower-case letter: a reserved one's kind, else 2, a field

unfoldable pub kind_or : Option ℕ → ℕ
kind_or none = 2
kind_or (some k) = k

unfoldable pub word_kind : List ℕ → ℕ
word_kind w = kind_or (spelled w reserved)

-- ---- a symbol, of its byte and the byte after it; 0 stands for the text's end

unfoldable pub or_else : Option ℕ → ℕ → ℕ
or_else none j = j
or_else (some k) j = k

unfoldable pub minus_kind : ℕ → ℕ
minus_kind c = cond (is_digit c) 4 5

unfoldable pub symbol_kind : ℕ → ℕ → ℕ
symbol_kind b c = or_else (spelled (b ∷ c ∷ []) double) (or_else (spelled (b ∷ []) single) (minus_kind c))

-- how many bytes it has
unfoldable pub symbol_width : ℕ → ℕ → ℕ
symbol_width b c = cond (paired b c) 2 1

-- ---- a word as a number

unfoldable pub packed : List ℕ → ℕ
packed [] = 1
packed (b ∷ w) = b + 256 * packed w

-- every entry is a byte
abbrev pub Bytes : List ℕ → Type 0
Bytes [] = Unit {0}
Bytes (b ∷ w) = (b < 256) × Bytes w

-- a table asked by the number in place of the word
unfoldable pub numbered : ℕ → List Spelling → Option ℕ
numbered n [] = none
numbered n (spelling v k ∷ rest) = cond (eqb n (packed v)) (some k) (numbered n rest)
