-- The classes of the 256 bytes: order 1, "Each byte has one of a few classes, fixed for all 256 bytes." 0 is no class: such a byte is bad.
-- Letters are the 52 of ASCII. Assumes nothing.
use Rattle.std.specs.Prelude.{ℕ, Bool, false, cond, ◌&&◌, ◌||◌, List, [], ◌∷◌, eqb, leb}

abbrev pub no_class : ℕ
no_class = 0

abbrev pub blank : ℕ
blank = 1

abbrev pub upper : ℕ
upper = 2

abbrev pub lower : ℕ
lower = 3

abbrev pub digit : ℕ
digit = 4

abbrev pub symbol : ℕ
symbol = 5

-- "Blanks are bytes 9, 10, 13 and 32; lines count from 1, by byte 10."
unfoldable pub blanks : List ℕ
blanks = 9 ∷ 10 ∷ 13 ∷ 32 ∷ []

abbrev pub line_end : ℕ
line_end = 10

-- ( ) - . : ; < = { | }
unfoldable pub symbols : List ℕ
symbols = 40 ∷ 41 ∷ 45 ∷ 46 ∷ 58 ∷ 59 ∷ 60 ∷ 61 ∷ 123 ∷ 124 ∷ 125 ∷ []

unfoldable pub among : ℕ → List ℕ → Bool
among b [] = false
among b (c ∷ cs) = eqb b c || among b cs

unfoldable pub class_of : ℕ → ℕ
class_of b =
    cond (among b blanks)
    blank
    (cond (leb 65 b && leb b 90)
    upper
    (cond (leb 97 b && leb b 122)
    lower
    (cond (leb 48 b && leb b 57) digit (cond (among b symbols) symbol no_class))))

-- "letters and digits follow"
unfoldable pub is_letter : ℕ → Bool
is_letter b = eqb (class_of b) upper || eqb (class_of b) lower

unfoldable pub is_digit : ℕ → Bool
is_digit b = eqb (class_of b) digit

unfoldable pub in_word : ℕ → Bool
in_word b = is_letter b || is_digit b
