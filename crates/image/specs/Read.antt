-- What the reader of a node ensures: it is the definitions' node, and its words are below 65,536. Assumes nothing.
use Rattle.std.specs.Prelude.{ℕ, ◌<◌, ◌≡◌, List}
use Rattle.rules.specs.Image.{node_at}
use Rattle.rules.specs.declared.Node.{Node}

pub record NodeRead (img : List ℕ) (n : ℕ) (x : Node) : Type 0 where
  pub is : x ≡ node_at img n
  pub small-tag : x.tag < 65536
  pub small-a : x.a < 65536
  pub small_b : x.b < 65536
  pub small-c : x.c < 65536
