-- The nodes so far, in the local image: they are counted up to 2,049, which stands for more than 2,048, and as long as there are no more than 2,048 their bytes
-- and their links stand in the two buffers. Assumes nothing.
use Rattle.std.specs.Prelude.{ℕ, ◌<◌, ◌≤◌, ◌≡◌, Bool, true, false, List, ◌++◌, length}
use Rattle.std.proofs.Math.Option.{none}
use Rattle.rules.specs.Image.{most_nodes}
use Rattle.reading.specs.Items.{Item}
use Rattle.reading.specs.Table.{Due, pass, does, finish}
use Rattle.dues.specs.Words.{due_word}
use Rattle.dues.specs.Stack.{DueFits, Stacked, passing, PassesAll}
use Rattle.tables.specs.Tabled.{Tabled}
use Rattle.building.specs.Room.{Roomy}

pub record Built (is : List Item) (start m : ℕ) (img firsts : List ℕ) : Type 0 where
  pub roomy : Roomy start img firsts
  pub few : m ≤ 2049
  pub counted : length is ≤ most_nodes → m ≡ length is
  pub tabled : length is ≤ most_nodes → Tabled is start img firsts
  pub past : most_nodes < length is → m ≡ 2049

-- these nodes come behind those that are there, whichever they are
pub record Adds (js : List Item) (start m m' : ℕ) (img firsts img' firsts' : List ℕ) : Type 0 where
  pub room : Roomy start img' firsts'
  pub few : m' ≤ 2049
  pub adds : (is : List Item) → Built is start m img firsts → Built (is ++ js) start m' img' firsts'

-- ---- what a token of this kind passes on its way down the stack

-- a word of a thing due that is passed
pub record WordPasses (w kind : ℕ) : Type 0 where
  pub due : Due
  pub fits : DueFits due
  pub is : w ≡ due_word due
  pub passes : does due kind 0 ≡ pass (passing due)

-- everything from the top down to the first `floor` things due
pub record Passed (work : List ℕ) (depth floor kind : ℕ) : Type 0 where
  pub above : List Due
  pub left : List Due
  pub stacked : Stacked (above ++ left) depth work
  pub count : length left ≡ floor
  pub passes : PassesAll above kind

-- whether a text may end here
abbrev pub EndSays : List Due → Bool → Type 0
EndSays ds true = PassesAll ds 0
EndSays ds false = (is : List Item) → finish ds is ≡ none
