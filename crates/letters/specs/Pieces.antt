-- Where a piece that begins at a byte ends, and its kind: by the class of that byte, and for a symbol by the byte after it. Assumes nothing.
use Rattle.std.specs.Prelude.{ℕ, ◌+◌, cond, List, eqb, get_or, drop}
use Rattle.std.proofs.Math.Seq.{slice}
use Rattle.grammar.specs.Classes.{upper, lower, digit, symbol, class_of, is_letter, is_digit, in_word}
use Rattle.letters.specs.Runs.{run}
use Rattle.letters.specs.Kinds.{word_kind, symbol_kind, symbol_width}

unfoldable pub piece_end : List ℕ → ℕ → ℕ
piece_end s at =
    cond (is_letter (get_or s at 0))
    (at + 1 + run in_word (drop (at + 1) s))
    (cond (is_digit (get_or s at 0))
    (at + 1 + run is_digit (drop (at + 1) s))
    (cond (eqb (class_of (get_or s at 0)) symbol) (at + symbol_width (get_or s at 0) (get_or s (at + 1) 0)) (at + 1)))

-- of the bytes from `at` up to `to`
unfoldable pub piece_kind : List ℕ → ℕ → ℕ → ℕ
piece_kind s at to =
    cond (eqb (class_of (get_or s at 0)) upper)
    1
    (cond (eqb (class_of (get_or s at 0)) lower)
    (word_kind (slice at to s))
    (cond (eqb (class_of (get_or s at 0)) digit)
    3
    (cond (eqb (class_of (get_or s at 0)) symbol) (symbol_kind (get_or s at 0) (get_or s (at + 1) 0)) 29)))
