-- What the code leaves in the bytes of an image and in the list of first nodes when it adds a node: reading/specs/Links, one item at a time. Assumes nothing.
use Rattle.std.specs.Prelude.{ℕ, ◌+◌, ◌*◌, ◌<◌, ◌≤◌, ◌≡◌, List, get_or, set}
use Rattle.std.proofs.Math.Option.{Option}
use Rattle.std.proofs.lemmas.List.Edits.{sets}
use Rattle.rules.specs.declared.Node.{Node}
use Rattle.rules.specs.declared.Row.{Row}
use Rattle.rules.specs.Published.{node_bytes}
use Rattle.reading.specs.Items.{put}
use Rattle.reading.specs.Links.{linked_by, linked, first_by, first_of}

-- no first node stands behind its node
pub record Falling (firsts : List ℕ) : Type 0 where
  pub falls : (k : ℕ) → get_or firsts k 0 ≤ k

-- a node and its first node, by what its words are
pub record Joined (m tag value : ℕ) (firsts : List ℕ) (o : Option Row) (x : Node) (first : ℕ) : Type 0 where
  pub node : x ≡ linked_by m firsts tag value o
  pub starts : first ≡ first_by m firsts o
  pub low : first ≤ m
  pub small-a : x.a < 65536
  pub small_b : x.b < 65536
  pub small-c : x.c < 65536

-- node m of the item is written: its bytes and its first node, and nothing else
pub record Puts (start m tag value : ℕ) (img firsts img' firsts' : List ℕ) : Type 0 where
  pub bytes : img' ≡ sets img (start + 8 * m) (node_bytes (linked m firsts (put tag value)))
  pub first : firsts' ≡ set firsts m (first_of m firsts (put tag value))
  pub falling : Falling firsts'
