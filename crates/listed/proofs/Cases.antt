-- The whole listing, computed on a run that holds each kind of value but null and unset, and what is printed before a script is run: a
-- missing file, the number of choices, a refused script. So no line and no order can change with the code that writes
-- them; module Example has the lines one by one, null's and unset's among them. Assumes nothing.
use Prim.Native.Nat.{ℕ}
use mathlib.Core.Path.{◌≡◌, refl}
use mathlib.Core.Option.{none, some}
use mathlib.Core.List.{List, [], ◌∷◌, flatten}
use lib.ListN.{replicate}
use Rattle.rules.specs.Published.{image}
use Rattle.rules.proofs.Writing.{four as node}
use Rattle.rules.proofs.Opens.{opens}
use Rattle.words.specs.Lent.{row_then, rows_from, rows, row_words, step_row, rows_of}
use Rattle.rules.specs.declared.Chain.TheVariants.{Empty}
use Rattle.rules.specs.declared.Value.TheVariants.{Nothing, Field}
use Rattle.rules.specs.declared.Stop.TheVariants.{NoRule}
use Rattle.rules.specs.declared.End.TheVariants.{Stopped}
use Rattle.text.specs.Ascii.{ascii}
use Rattle.text.specs.Text.{digit_count_by, digit_count, decimal, signed, further, line}
use Rattle.listed.specs.Listing.{no_input, choices_too_long, header_line, row_line, row_lines, stop_words, end_words, end_line, refused_line, code_of, chain_word, value_words, cell_line, cell_lines, field_line, field_lines, object_lines, run_lines, lines_by, listing_lines, listing, most_choices, printed}

-- opens the listing, as `opens` does the rules
unfoldable lists : Unit {0}
unfolding opens row_then rows_from rows row_words step_row rows_of digit_count_by digit_count decimal signed further line no_input choices_too_long header_line row_line row_lines stop_words end_words end_line refused_line code_of chain_word value_words cell_line cell_lines field_line field_lines object_lines run_lines lines_by listing_lines listing most_choices printed flatten
lists = tt

-- fields a 12, b 700: (proc y: var x; var w; {malloc(x); {malloc(w); {x.a = w; {x.b = b; {w.a = proc v: skip;
-- {w.b = 5 - 2; {x = -7; w = null - null}}}}}}})(proc z: skip)
unfoldable pub script : List ℕ
script =
    image (12 ∷ 700 ∷ [])
    (node 34 1 0 0
    ∷ node 34 2 0 0
    ∷ node 5 1 0 0
    ∷ node 1 1 0 0
    ∷ node 5 2 0 0
    ∷ node 36 2 3 4
    ∷ node 5 1 0 0
    ∷ node 1 2 0 0
    ∷ node 1 2 0 0
    ∷ node 36 6 7 8
    ∷ node 5 2 0 0
    ∷ node 1 1 0 0
    ∷ node 37 0 0 0
    ∷ node 7 3 12 0
    ∷ node 36 10 11 13
    ∷ node 5 2 0 0
    ∷ node 1 2 0 0
    ∷ node 2 5 0 0
    ∷ node 2 2 0 0
    ∷ node 3 17 18 0
    ∷ node 36 15 16 19
    ∷ node 2 65529 65535 0
    ∷ node 35 1 21 0
    ∷ node 4 0 0 0
    ∷ node 4 0 0 0
    ∷ node 3 23 24 0
    ∷ node 35 2 25 0
    ∷ node 38 22 26 0
    ∷ node 38 20 27 0
    ∷ node 38 14 28 0
    ∷ node 38 9 29 0
    ∷ node 38 5 30 0
    ∷ node 38 1 31 0
    ∷ node 38 0 32 0
    ∷ node 32 2 33 0
    ∷ node 32 1 34 0
    ∷ node 7 0 35 0
    ∷ node 37 0 0 0
    ∷ node 7 4 37 0
    ∷ node 33 36 38 0
    ∷ [])
    5

pub listing-of-each-value
    : printed (some script) (some (replicate 12 0))
    ≡ flatten
    (ascii "step choice node tag frames objects\n"
    ∷ ascii "1 0 39 33 1 0\n"
    ∷ ascii "2 0 35 32 2 0\n"
    ∷ ascii "3 0 34 32 3 0\n"
    ∷ ascii "4 0 0 34 3 1\n"
    ∷ ascii "5 0 1 34 3 2\n"
    ∷ ascii "6 0 5 36 3 2\n"
    ∷ ascii "7 0 9 36 3 2\n"
    ∷ ascii "8 0 14 36 3 2\n"
    ∷ ascii "9 0 20 36 3 2\n"
    ∷ ascii "10 0 22 35 3 2\n"
    ∷ ascii "end 2 fault 1 node 25 steps 10\n"
    ∷ ascii "cell 0 name 0 proc 38 none\n"
    ∷ ascii "cell 1 name 1 int -7\n"
    ∷ ascii "cell 2 name 2 object 1\n"
    ∷ ascii "object 0 field 12 object 1\n"
    ∷ ascii "object 0 field 700 field 700\n"
    ∷ ascii "object 1 field 12 proc 13 2\n"
    ∷ ascii "object 1 field 700 int 3\n"
    ∷ [])
unfolding script lists
listing-of-each-value = refl

-- missing, then too many, then refused; 4,096 are not too many
pub before-a-run
    : (printed none none
    ∷ printed none (some (replicate 4097 0))
    ∷ printed (some []) none
    ∷ printed (some []) (some (replicate 4097 0))
    ∷ printed (some []) (some (replicate 4096 0))
    ∷ printed (some (image (3 ∷ 7 ∷ 7 ∷ []) [] 0)) (some [])
    ∷ printed (some (image (3 ∷ 7 ∷ 7 ∷ []) (node 37 0 0 0 ∷ []) 0)) (some [])
    ∷ [])
    ≡ (ascii "no input\n"
    ∷ ascii "no input\n"
    ∷ ascii "no input\n"
    ∷ ascii "choices too long\n"
    ∷ ascii "refused 1 at 0\n"
    ∷ ascii "refused 2 at 0\n"
    ∷ ascii "refused 4 at 2\n"
    ∷ [])
unfolding lists
before-a-run = refl

-- what no run of an accepted script shows: an end without a rule, no value, no field
pub lines-of-nothing
    : (end_line (Stopped NoRule) 3 ∷ cell_line script 1 (record { name = 2; outer = Empty; cell = Nothing }) ∷ field_line script 0 1 (Field 0) ∷ [])
    ≡ (ascii "end 0 steps 3\n" ∷ ascii "cell 1 name 2\n" ∷ ascii "object 0 field 700 field 0\n" ∷ [])
unfolding script lists
lines-of-nothing = refl
