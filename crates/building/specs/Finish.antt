-- The end of a text: whether it may end there, and whether its nodes are few enough; then the codes as words, and the image that goes out.
-- Assumes nothing.
use Rattle.std.specs.Prelude.{ℕ, ◌+◌, ◌*◌, ◌≤◌, ◌<◌, ◌≡◌, Result, Ok, Err, List, ◌++◌, length, drop}
use Rattle.std.proofs.Math.Option.{none, some}
use Rattle.rules.specs.Image.{most_nodes}
use Rattle.rules.specs.Published.{image}
use Rattle.reading.specs.Items.{Item}
use Rattle.reading.specs.Links.{nodes_in, link}
use Rattle.reading.specs.Table.{Due, finish}
use Rattle.dues.specs.Stack.{Stacked}
use Rattle.tables.specs.Tabled.{Tabled}
use Rattle.building.specs.Built.{Built}
use Rattle.building.specs.declared.finish.EndError.{EndError}
use Rattle.building.specs.declared.finish.EndError.TheVariants.{Early, TooManyNodes}
use Rattle.building.specs.declared.nodes.Nodes.{Nodes}

-- the text ends, with more nodes than an image has
pub record TooMany (ds : List Due) (is : List Item) : Type 0 where
  pub items : List Item
  pub ends : finish ds is ≡ some items
  pub many : most_nodes < length items

-- the text ends, and its nodes stand in the buffers
pub record Ended (ds : List Due) (is : List Item) (start nodes : ℕ) (img firsts : List ℕ) : Type 0 where
  pub items : List Item
  pub ends : finish ds is ≡ some items
  pub few : length items ≤ most_nodes
  pub counted : nodes ≡ length items
  pub tabled : Tabled items start img firsts

-- by what is wrong; or nothing is
abbrev pub Ends : List Due → List Item → Result Unit EndError → Nodes → Type 0
Ends ds is (Ok u) s = Ended ds is s.start s.count s.image s.firsts
Ends ds is (Err Early) s = finish ds is ≡ none
Ends ds is (Err TooManyNodes) s = TooMany ds is

-- whatever is due and whatever came out so far
pub record EndSaysAll (depth : ℕ) (ws : List ℕ) (r : Result Unit EndError) (s t : Nodes) : Type 0 where
  pub says : (ds : List Due) (is : List Item) → Stacked ds depth ws → Built is s.start s.count s.image s.firsts → Ends ds is r t
  pub same : t.start ≡ s.start

-- ---- the image goes out

-- the image of these nodes, and behind it what was there
pub record Shows (names n : ℕ) (js : List Item) (codes out out' : List ℕ) : Type 0 where
  pub long : length (image codes (nodes_in (link js)) names) ≡ n
  pub is : out' ≡ image codes (nodes_in (link js)) names ++ drop n out

-- whichever nodes stand behind the place of the codes
pub record Out (nodes names n : ℕ) (codes img out out' : List ℕ) : Type 0 where
  pub bytes : n ≡ 10 + 2 * length codes + 8 * nodes
  pub shows : (js : List Item) (firsts : List ℕ) → Tabled js (10 + 2 * length codes) img firsts → length js ≡ nodes → Shows names n js codes out out'
