-- The room for the nodes of a text. Assumes nothing.
use Rattle.std.specs.Prelude.{ℕ, ◌≤◌, ◌≡◌, List, length}
use Rattle.rules.specs.Image.{most_nodes}
use Rattle.grammar.specs.Reads.{most_bytes}
use Rattle.tables.specs.Puts.{Falling}

-- the buffers have their lengths, and the nodes begin behind the contents and at most 16 codes
pub record Roomy (start : ℕ) (img firsts : List ℕ) : Type 0 where
  pub bytes : length img ≡ most_bytes
  pub links : length firsts ≡ most_nodes
  pub begins : start ≤ 42
  pub falling : Falling firsts
