-- Document 01's listing, byte for byte: the script of 34 bytes, the choices 0 and 0, and what is printed. Assumes nothing.
use Prim.Native.Nat.{ℕ}
use mathlib.Core.Path.{◌≡◌, refl}
use mathlib.Core.Option.{none, some}
use mathlib.Core.List.{List, [], ◌∷◌, flatten}
use lib.ListN.{replicate}
use Rattle.rules.specs.Image.{code_at}
use Rattle.rules.proofs.Opens.{opens}
use Rattle.rules.specs.Numbers.{stop_no, end_no}
use Rattle.words.specs.Lent.{row_then, rows_from, rows, row_words, step_row, rows_of}
use Rattle.rules.specs.declared.Chain.TheVariants.{Empty, From}
use Rattle.rules.specs.declared.Value.TheVariants.{Null, Int, Field, Proc, Unset}
use Rattle.rules.specs.declared.Stop.TheVariants.{Faulted, Full, OutOfRange}
use Rattle.rules.specs.declared.End.TheVariants.{UsedUp, Stopped}
use Rattle.text.specs.Ascii.{ascii}
use Rattle.text.specs.Text.{digit_count_by, digit_count, decimal, signed, further, line}
use Rattle.listed.specs.Listing.{no_input, choices_too_long, header_line, row_line, row_lines, stop_words, end_words, end_line, refused_line, code_of, chain_word, value_words, cell_line, cell_lines, field_line, object_lines, run_lines, lines_by, listing_lines, listing, most_choices, printed}

unfoldable pub script : List ℕ
script =
    10 ∷ 0 ∷ 0 ∷ 0 ∷ 10 ∷ 0 ∷ 3 ∷ 0 ∷ 1 ∷ 0 ∷ 2 ∷ 0 ∷ 1 ∷ 0 ∷ 0 ∷ 0 ∷ 0 ∷ 0 ∷ 35 ∷ 0 ∷ 0 ∷ 0 ∷ 0 ∷ 0 ∷ 0 ∷ 0 ∷ 32 ∷ 0 ∷ 0 ∷ 0 ∷ 1 ∷ 0 ∷ 0 ∷ 0 ∷ []

unfoldable pub choices : List ℕ
choices = 0 ∷ 0 ∷ []

-- as document 01 prints it
unfoldable pub wanted : List ℕ
wanted =
    ascii
    "step choice node tag frames objects\n1 0 2 32 1 0\n2 0 1 35 1 0\nend 1 steps 2\ncell 0 name 0 int 1\n"

pub listing-example : printed (some script) (some choices) ≡ wanted
unfolding script choices wanted opens row_then rows_from rows row_words step_row rows_of digit_count_by digit_count decimal signed further line header_line row_line row_lines end_words end_line value_words cell_line cell_lines object_lines run_lines lines_by listing_lines listing most_choices printed flatten
listing-example = refl

-- with one choice the variable is declared and not set: its cell is listed as unset (order 5)
pub listing-unset
    : printed (some script) (some (0 ∷ []))
    ≡ ascii
    "step choice node tag frames objects\n1 0 2 32 1 0\nend 4 steps 1\ncell 0 name 0 unset\n"
unfolding script opens row_then rows_from rows row_words step_row rows_of digit_count_by digit_count decimal signed further line header_line row_line row_lines end_words end_line value_words cell_line cell_lines object_lines run_lines lines_by listing_lines listing most_choices printed flatten
listing-unset = refl

-- contents and codes of a script with the codes 12 and 7 at positions 0 and 1 (refused, but a line asks nothing of it)
unfoldable pub coded : List ℕ
coded = 10 ∷ 0 ∷ 2 ∷ 0 ∷ 14 ∷ 0 ∷ 1 ∷ 0 ∷ 0 ∷ 0 ∷ 12 ∷ 0 ∷ 7 ∷ 0 ∷ []

-- the other lines that document 01 shows, and the negative ends of the integers
pub lines-example
    : (end_line (Stopped (Faulted 3 5)) 4
    ∷ end_line (Stopped (Full 1)) 9
    ∷ end_line UsedUp 0
    ∷ end_line (Stopped OutOfRange) 3
    ∷ refused_line 5 3
    ∷ field_line coded 0 0 Null
    ∷ field_line coded 0 0 (Field 2)
    ∷ field_line coded 0 1 (Proc 8 (From 2))
    ∷ cell_line coded 3 (record { name = 7; outer = Empty; cell = Proc 8 Empty })
    ∷ cell_line coded 0 (record { name = 0; outer = Empty; cell = Int 4294967295 })
    ∷ cell_line coded 0 (record { name = 0; outer = Empty; cell = Int 2147483648 })
    ∷ cell_line coded 0 (record { name = 0; outer = Empty; cell = Unset })
    ∷ printed (some coded) none
    ∷ printed (some coded) (some (replicate 4097 0))
    ∷ [])
    ≡ (ascii "end 2 fault 3 node 5 steps 4\n"
    ∷ ascii "end 3 room 1 steps 9\n"
    ∷ ascii "end 4 steps 0\n"
    ∷ ascii "end 5 steps 3\n"
    ∷ ascii "refused 5 at 3\n"
    ∷ ascii "object 0 field 12 null\n"
    ∷ ascii "object 0 field 12 field 7\n"
    ∷ ascii "object 0 field 7 proc 8 2\n"
    ∷ ascii "cell 3 name 7 proc 8 none\n"
    ∷ ascii "cell 0 name 0 int -1\n"
    ∷ ascii "cell 0 name 0 int -2147483648\n"
    ∷ ascii "cell 0 name 0 unset\n"
    ∷ ascii "no input\n"
    ∷ ascii "choices too long\n"
    ∷ [])
unfolding coded code_at end_no stop_no digit_count_by digit_count decimal signed further line no_input choices_too_long stop_words end_words end_line refused_line code_of chain_word value_words cell_line field_line most_choices printed
lines-example = refl
