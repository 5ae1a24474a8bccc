-- Text as a list of bytes: numbers in decimal, and a line made of words. ASCII throughout.
-- The digits are those of the kit's `io::decimal`: `last_digits b k n` is the last k digits of n, the most significant first.
-- Assumes nothing.
use Rattle.std.specs.Prelude.{ℕ, zero, suc, ◌/◌, true, false, List, [], ◌∷◌, ◌++◌, ltb, ℤ, pos, negsuc}
use Rattle.io.specs.Digits.{last_digits}

-- ---- numbers

-- how many digits n has; k, no smaller than n, bounds the way
unfoldable pub digit_count_by : ℕ → ℕ → ℕ
digit_count_by zero n = 1
digit_count_by (suc k) n = elim (ltb n 10) [ true ↦ 1 | false ↦ suc (digit_count_by k (n / 10)) ]

unfoldable pub digit_count : ℕ → ℕ
digit_count n = digit_count_by n n

unfoldable pub decimal : ℕ → List ℕ
decimal n = last_digits 10 (digit_count n) n

-- a minus sign before the digits of a number below zero; `negsuc n` is −(n + 1)
unfoldable pub signed : ℤ → List ℕ
signed (pos n) = decimal n
signed (negsuc n) = 45 ∷ decimal (suc n)

-- ---- lines

-- the words that follow in a line, each after a space; the line ends with byte 10
unfoldable pub further : List (List ℕ) → List ℕ
further [] = 10 ∷ []
further (w ∷ ws) = 32 ∷ (w ++ further ws)

unfoldable pub line : List (List ℕ) → List ℕ
line [] = 10 ∷ []
line (w ∷ ws) = w ++ further ws

-- ---- pieces of a line

-- a text and the number that follows it
abbrev pub pair : List ℕ → ℕ → List ℕ
pair s n = s ++ (32 ∷ decimal n)

-- the same at the end of a line
abbrev pub last : List ℕ → ℕ → List ℕ
last s n = s ++ (32 ∷ (decimal n ++ (10 ∷ [])))
