-- A number that is in no line of the table of tags has no row. Assumes nothing.
use Prim.Native.Nat.{ℕ}
use mathlib.Core.Path.{◌≡◌, refl, ap}
use mathlib.Core.Option.{none}
use mathlib.Core.List.{List, [], ◌∷◌}
use borrow.Author.Tests.{ne_eqb}
use Rattle.rules.specs.Image.{Line, line, line_in, line_of, row_in, row_of, tags}

-- x is the number of none of these lines
abbrev pub Absent : ℕ → List Line → Type 0
Absent x [] = Unit {0}
Absent x (line k r t ∷ ls) = (x ≡ k → ⊥) × Absent x ls

absent-in : (x : ℕ) (ls : List Line) → Absent x ls → line_in x ls ≡ none
unfolding line_in
absent-in x [] h = refl
absent-in x (line k r t ∷ ls) h = rw (ne_eqb x k h.0) (absent-in x ls h.1)

pub absent : (x : ℕ) → Absent x tags → row_of x ≡ none
unfolding row_of row_in line_of
absent x h = ap row_in (absent-in x tags h)
