-- The way past blanks: order 1, "The reader is moved past blanks, counting lines as it goes." Assumes nothing.
use Rattle.std.specs.Prelude.{ℕ, suc, cond, List, [], ◌∷◌, eqb, drop}
use Rattle.grammar.specs.Classes.{blank, class_of}
use Rattle.grammar.specs.Places.{line_after}
use Rattle.letters.specs.declared.cursor.Cursor.{Cursor}

-- of what is left of a text from a byte on, that byte's number and the line on which it stands
unfoldable pub past_all : List ℕ → ℕ → ℕ → Cursor
past_all [] at line = record { at = at; line = line }
past_all (b ∷ s) at line = cond (eqb (class_of b) blank) (past_all s (suc at) (line_after b line)) (record { at = at; line = line })

unfoldable pub past : List ℕ → ℕ → ℕ → Cursor
past s at line = past_all (drop at s) at line
