-- The lines, computed: the example of the documents, a row of each table, and what each condition does. So none of them can change with the
-- code that writes. Assumes nothing.
use mathlib.Core.Path.{◌≡◌, refl}
use mathlib.Core.Bool.{Bool, true, false}
use mathlib.Core.List.{List, [], ◌∷◌, ◌++◌}
use lib.ListN.{replicate}
use Rattle.text.specs.Ascii.{ascii}
use Rattle.text.specs.Text.{digit_count_by, digit_count, decimal, line}
use Rattle.text.specs.Text.{further as further_words}
use Rattle.wording.specs.Lines.{no_input, text_too_long, list_too_long, image_line, refused_line, words_of, row_faults, faults, kinds, row_line, tells, told_of, further, joined, could_be, shown, stood, place_line, nodes_line, second_line}

-- names every definition of the lines, once
unfoldable opens : Unit {0}
unfolding no_input text_too_long list_too_long image_line refused_line words_of row_faults faults kinds row_line tells told_of further joined could_be shown stood place_line nodes_line second_line decimal digit_count digit_count_by line further_words
opens = tt

pub one_line : (no_input ∷ text_too_long ∷ list_too_long ∷ image_line (ascii "script.img") 34 ∷ [])
    ≡ (ascii "no input\n" ∷ ascii "text too long\n" ∷ ascii "list too long\n" ∷ ascii "script.img 34 bytes\n" ∷ [])
unfolding opens
one_line = refl

-- a bad list: each of the nine
pub bad-rows
    : (refused_line 21 0 ∷ row_line 17 1 ∷ row_line 1 2 ∷ row_line 2 3 ∷ row_line 3 4 ∷ row_line 4 5 ∷ row_line 5 6 ∷ row_line 6 7 ∷ row_line 7 8 ∷ row_line 16 9 ∷ [])
    ≡ (ascii "refused 21 at line 0\n"
    ∷ ascii "row 17: over 16 rows\n"
    ∷ ascii "row 1: no field name\n"
    ∷ ascii "row 2: a reserved word as name\n"
    ∷ ascii "row 3: a name that stands before\n"
    ∷ ascii "row 4: no comma behind the name\n"
    ∷ ascii "row 5: no digit behind the comma\n"
    ∷ ascii "row 6: no byte 10 behind the code\n"
    ∷ ascii "row 7: a code not from 1 to 65535\n"
    ∷ ascii "row 16: a code not above the one before\n"
    ∷ [])
unfolding opens
bad-rows = refl

-- what could stand: all of it, with one minus; a minus that is no sign; nothing; the end alone
pub could-be
    : (could_be (replicate 29 true) ∷ could_be (false ∷ false ∷ false ∷ false ∷ false ∷ true ∷ true ∷ replicate 22 false) ∷ could_be (replicate 29 false) ∷ could_be (true ∷ replicate 28 false) ∷ [])
    ≡ (ascii "a name, a field, a number, -, null, proc, true, false, var, malloc, skip, while, if, else, atom, (, ), {, }, ;, ||, ., =, ==, <, :, the end"
    ∷ ascii "-, null"
    ∷ []
    ∷ ascii "the end"
    ∷ [])
unfolding opens
could-be = refl

abbrev expression : List Bool  -- a name, a field, a number, a sign, null, proc, an opening parenthesis
expression = (false ∷ true ∷ true ∷ true ∷ true ∷ false ∷ true ∷ true ∷ replicate 9 false) ++ (true ∷ replicate 11 false)

-- the text `var X;`, byte 10, `X = Y.height` with the list `f,3`, byte 10; then the same place for each of the others
pub second-lines
    : (refused_line 24 2
    ∷ second_line 24 2 (ascii "height") expression
    ∷ second_line 22 29 (35 ∷ []) (true ∷ replicate 28 false)
    ∷ second_line 23 0 [] expression
    ∷ second_line 23 25 (ascii "==") (true ∷ replicate 28 false)
    ∷ second_line 25 3 (ascii "2147483648") (true ∷ replicate 28 false)
    ∷ second_line 26 1 (ascii "A128") (true ∷ replicate 28 false)
    ∷ second_line 27 0 [] (replicate 29 true)
    ∷ [])
    ≡ (ascii "refused 24 at line 2\n"
    ∷ ascii "unknown field: height; could be: a name, a field, a number, -, null, proc, (\n"
    ∷ ascii "bad byte 35; could be: the end\n"
    ∷ ascii "early end; could be: a name, a field, a number, -, null, proc, (\n"
    ∷ ascii "bad word order: ==; could be: the end\n"
    ∷ ascii "number outside 32 bits: 2147483648; could be: the end\n"
    ∷ ascii "too many names: A128; could be: the end\n"
    ∷ ascii "too many nodes: over 2048\n"
    ∷ [])
unfolding opens
second-lines = refl

-- 64 bytes are shown, and of 65 the first 64
pub places-shown : (shown (replicate 64 88) ∷ shown (replicate 65 88) ∷ []) ≡ (replicate 64 88 ∷ (replicate 64 88 ++ ascii "..") ∷ [])
unfolding opens
places-shown = refl
