-- What the program `encode` prints, line by line, in words for people: order 1 decides the numbers and the lines of a refusal, and the words here
-- are the program's own. Of a refused text the second line tells what stood there and what could have stood there. A table is a list
-- of rows, in the order in which its words are printed. Assumes nothing.
use Rattle.std.specs.Prelude.{ℕ, Bool, false, cond, not, ◌&&◌, List, [], ◌∷◌, ◌++◌, length, get_or, take, eqb, leb}
use Rattle.text.specs.Ascii.{ascii}
use Rattle.text.specs.Text.{decimal, line}

-- ---- the answers of one line

unfoldable pub no_input : List ℕ
no_input = line (ascii "no input" ∷ [])

unfoldable pub text_too_long : List ℕ
text_too_long = line (ascii "text too long" ∷ [])

unfoldable pub list_too_long : List ℕ
list_too_long = line (ascii "list too long" ∷ [])

-- the image's name and its length
unfoldable pub image_line : List ℕ → ℕ → List ℕ
image_line name n = line (name ∷ decimal n ∷ ascii "bytes" ∷ [])

-- the first line of a refusal: its number and its line
unfoldable pub refused_line : ℕ → ℕ → List ℕ
refused_line k l = line (ascii "refused" ∷ decimal k ∷ ascii "at" ∷ ascii "line" ∷ decimal l ∷ [])

-- ---- tables

pub data Row : Type 0 where
  row : ℕ → List ℕ → Row  -- a number, its words

-- the words of a number; none where it has no row
unfoldable pub words_of : ℕ → List Row → List ℕ
words_of k [] = []
words_of k (row j w ∷ rs) = cond (eqb j k) w (words_of k rs)

-- what is wrong with a row of the list of fields, by the numbers of the crate fieldlist
unfoldable pub row_faults : List Row
row_faults =
    row 1 (ascii "over 16 rows")
    ∷ row 2 (ascii "no field name")
    ∷ row 3 (ascii "a reserved word as name")
    ∷ row 4 (ascii "a name that stands before")
    ∷ row 5 (ascii "no comma behind the name")
    ∷ row 6 (ascii "no digit behind the comma")
    ∷ row 7 (ascii "no byte 10 behind the code")
    ∷ row 8 (ascii "a code not from 1 to 65535")
    ∷ row 9 (ascii "a code not above the one before")
    ∷ []

-- what is wrong at a place of the text, where what stood there is told as it stands
unfoldable pub faults : List Row
faults =
    row 23 (ascii "bad word order")
    ∷ row 24 (ascii "unknown field")
    ∷ row 25 (ascii "number outside 32 bits")
    ∷ row 26 (ascii "too many names")
    ∷ []

-- the kinds of tokens, and last the end of the text. 28, a word or a symbol that stands nowhere, has no row
unfoldable pub kinds : List Row
kinds =
    row 1 (ascii "a name")
    ∷ row 2 (ascii "a field")
    ∷ row 3 (ascii "a number")
    ∷ row 4 (ascii "-")  -- directly before a digit
    ∷ row 5 (ascii "-")  -- any other
    ∷ row 6 (ascii "null")
    ∷ row 7 (ascii "proc")
    ∷ row 8 (ascii "true")
    ∷ row 9 (ascii "false")
    ∷ row 10 (ascii "var")
    ∷ row 11 (ascii "malloc")
    ∷ row 12 (ascii "skip")
    ∷ row 13 (ascii "while")
    ∷ row 14 (ascii "if")
    ∷ row 15 (ascii "else")
    ∷ row 16 (ascii "atom")
    ∷ row 17 (ascii "(")
    ∷ row 18 (ascii ")")
    ∷ row 19 (ascii "{")
    ∷ row 20 (ascii "}")
    ∷ row 21 (ascii ";")
    ∷ row 22 (ascii "||")
    ∷ row 23 (ascii ".")
    ∷ row 24 (ascii "=")
    ∷ row 25 (ascii "==")
    ∷ row 26 (ascii "<")
    ∷ row 27 (ascii ":")
    ∷ row 0 (ascii "the end")
    ∷ []

-- ---- the second line of a bad list

unfoldable pub row_line : ℕ → ℕ → List ℕ
row_line r why = ascii "row " ++ (decimal r ++ (ascii ": " ++ (words_of why row_faults ++ ascii "\n")))

-- ---- the second line of a refused text

-- what could have stood there: a flag a kind, that of kind 0 for the end of the text. A minus is told once
unfoldable pub tells : List Bool → ℕ → Bool
tells could k = get_or could k false && not (eqb k 5 && get_or could 4 false)

unfoldable pub told_of : List Bool → List Row → List (List ℕ)
told_of could [] = []
told_of could (row k w ∷ rs) = cond (tells could k) (w ∷ told_of could rs) (told_of could rs)

-- words with a comma and a space between them
unfoldable pub further : List (List ℕ) → List ℕ
further [] = []
further (w ∷ ws) = ascii ", " ++ (w ++ further ws)

unfoldable pub joined : List (List ℕ) → List ℕ
joined [] = []
joined (w ∷ ws) = w ++ further ws

unfoldable pub could_be : List Bool → List ℕ
could_be could = joined (told_of could kinds)

-- the bytes of a place, as they stand in the text; of many the first
abbrev pub most_shown : ℕ
most_shown = 64

unfoldable pub shown : List ℕ → List ℕ
shown place = cond (leb (length place) most_shown) place (take most_shown place ++ ascii "..")

-- by the number of the refusal, the kind of what stood there, 0 being the end of the text, and its bytes
unfoldable pub stood : ℕ → ℕ → List ℕ → List ℕ
stood k kind place =
    cond (eqb kind 0)
    (ascii "early end")
    (cond (eqb k 22) (ascii "bad byte " ++ decimal (get_or place 0 0)) (words_of k faults ++ (ascii ": " ++ shown place)))

unfoldable pub place_line : ℕ → ℕ → List ℕ → List Bool → List ℕ
place_line k kind place could = stood k kind place ++ (ascii "; could be: " ++ (could_be could ++ ascii "\n"))

unfoldable pub nodes_line : List ℕ
nodes_line = line (ascii "too many nodes: over 2048" ∷ [])

unfoldable pub second_line : ℕ → ℕ → List ℕ → List Bool → List ℕ
second_line k kind place could = cond (eqb k 27) nodes_line (place_line k kind place could)
