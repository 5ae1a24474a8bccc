-- What could have stood at a place, told word by word. Assumes nothing.
use Rattle.std.specs.Prelude.{ℕ, zero, suc, ◌≡◌, Bool, cond, List, [], ◌++◌}
use Rattle.text.specs.Ascii.{ascii}
use Rattle.text.specs.declared.Page.{Page}
use Rattle.text.specs.Written.{Adds}
use Rattle.wording.specs.Lines.{words_of, kinds, tells}

-- a word behind n others
unfoldable pub item : ℕ → List ℕ → List ℕ
item zero w = w
item (suc n) w = ascii ", " ++ w

-- what is written of a kind behind n words, and how many they are then
unfoldable pub piece : List Bool → ℕ → ℕ → List ℕ
piece could n k = cond (tells could k) (item n (words_of k kinds)) []

unfoldable pub count_after : List Bool → ℕ → ℕ → ℕ
count_after could n k = cond (tells could k) (suc n) n

pub record TellSays (could : List Bool) (k n : ℕ) (old : Page) (m : ℕ) (new : Page) : Type 0 where
  pub wrote : Adds 10 old (piece could n k) new
  pub many : m ≡ count_after could n k
