-- The items so far stand in an image: their nodes' bytes from `start` on, and the first nodes in their list, with zeros behind. And the head of an image,
-- which may be written when the numbers of nodes and names are known. Assumes nothing.
use Rattle.std.specs.Prelude.{ℕ, ◌+◌, ◌*◌, ◌≡◌, length, get_or}
use mathlib.Core.List.{List, ◌∷◌, flatten, map}
use Rattle.std.proofs.Math.Seq.{slice}
use Rattle.rules.specs.Published.{bytes_of, node_bytes}
use Rattle.reading.specs.Items.{Item}
use Rattle.reading.specs.Links.{nodes_in, firsts_in, link}

pub record Tabled (is : List Item) (start : ℕ) (img firsts : List ℕ) : Type 0 where
  pub entries : (k : ℕ) → get_or firsts k 0 ≡ get_or (firsts_in (link is)) k 0
  pub bytes : slice start (start + 8 * length is) img ≡ flatten (map node_bytes (nodes_in (link is)))

-- the contents and the codes
unfoldable pub head_bytes : List ℕ → ℕ → ℕ → List ℕ
head_bytes codes nodes names = flatten (map bytes_of (10 ∷ length codes ∷ (10 + 2 * length codes) ∷ nodes ∷ names ∷ codes))
