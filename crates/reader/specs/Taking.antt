-- Which kinds of token the things due take, and whether they let the text end. Assumes nothing.
use Rattle.std.specs.Prelude.{ℕ, ◌<◌, ◌≡◌, Bool, true, false, List, length, get_or}
use Rattle.reading.specs.Items.{Item}
use Rattle.reading.specs.Table.{Due, went, stuck, feed}
use Rattle.building.specs.Built.{EndSays}

-- a token of kind k is taken, whatever nodes came out so far
pub record Taken (ds : List Due) (k : ℕ) : Type 0 where
  pub dues : List Due
  pub items : List Item → List Item
  pub goes : (is : List Item) → feed ds k 0 is ≡ went dues (items is)

abbrev pub KindSays : List Due → ℕ → Bool → Type 0
KindSays ds k true = Taken ds k
KindSays ds k false = (is : List Item) → feed ds k 0 is ≡ stuck

-- the kinds from 1 up to n have been asked
pub record Asked (ds : List Due) (n : ℕ) (could : List Bool) : Type 0 where
  pub long : length could ≡ 29
  pub ends : EndSays ds (get_or could 0 false)
  pub kinds : (k : ℕ) → 0 < k → k < n → KindSays ds k (get_or could k false)

abbrev pub KindsSay : List Due → List Bool → Type 0
KindsSay ds could = Asked ds 29 could
