-- The list of fields: order 1, "a list of rows (name, comma, decimal code, byte 10) gives each field name its code, and its codes are the
-- image's field body." Every row ends with byte 10, the last too; an empty list is right. Assumes nothing.
use Rattle.std.specs.Prelude.{ℕ, suc, ◌≤◌, ◌≡◌, true, cond, List, [], ◌∷◌, ◌++◌, map, length}
use Rattle.std.proofs.Math.Option.{Option, none, some}
use Rattle.rules.specs.Image.{most_fields}
use Rattle.rules.specs.Published.{Increasing}
use Rattle.grammar.specs.Classes.{lower, line_end, class_of, is_digit, in_word}
use Rattle.grammar.specs.Tokens.{reserved, same_word, spelled}
use Rattle.grammar.specs.Places.{every, decimal}

pub data Entry : Type 0 where
  entry : List ℕ → ℕ → Entry  -- a field's name, its code

unfoldable pub word_of : Entry → List ℕ
word_of (entry w k) = w

unfoldable pub code_of : Entry → ℕ
code_of (entry w k) = k

-- a field name: a lower-case letter, letters and digits after it, and not reserved
pub record FieldName (w : List ℕ) : Type 0 where
  pub first : ℕ
  pub rest : List ℕ
  pub is : w ≡ first ∷ rest
  pub low : class_of first ≡ lower
  pub follow : every in_word rest ≡ true
  pub free : spelled w reserved ≡ none

-- a comma is byte 44
pub data Rows : List ℕ → List Entry → Type 0 where
  no_row : Rows [] []
  a-row : {w s : List ℕ} (d : ℕ) (ds : List ℕ) {fs : List Entry}
      → FieldName w → every is_digit (d ∷ ds) ≡ true → Rows s fs → Rows (w ++ (44 ∷ ((d ∷ ds) ++ (line_end ∷ s)))) (entry w (decimal (d ∷ ds)) ∷ fs)

-- where a word stands in a list of words, from 0
unfoldable pub next : Option ℕ → Option ℕ
next none = none
next (some k) = some (suc k)

unfoldable pub position_of : List ℕ → List (List ℕ) → Option ℕ
position_of w [] = none
position_of w (v ∷ vs) = cond (same_word w v) (some 0) (next (position_of w vs))

-- no word stands twice
abbrev pub Different : List (List ℕ) → Type 0
Different [] = Unit {0}
Different (w ∷ ws) = (position_of w ws ≡ none) × Different ws

-- what 21 asks for: at most 16 rows, names that are names and not repeated, codes strictly increasing from 1 to 65,535
pub record Listed (list : List ℕ) (fs : List Entry) : Type 0 where
  pub rows : Rows list fs
  pub few : length fs ≤ most_fields
  pub different : Different (map word_of fs)
  pub increasing : Increasing 0 (map code_of fs)
