-- How the uses of nodes are counted for rule 8: a list with a number for each node, and perhaps more. Assumes nothing.
use Rattle.std.specs.Prelude.{ℕ, ◌+◌, ◌<◌, ◌≤◌, ◌≡◌, List, length, get_or}
use Rattle.rules.specs.declared.Node.{Node}
use Rattle.rules.specs.declared.Role.{Role}
use Rattle.rules.specs.declared.Row.{Row}
use Rattle.rules.specs.Image.{nodes_of}
use Rattle.rules.specs.Refusals.{hit, uses_of}

-- no number is above b
pub record Most (b : ℕ) (t : List ℕ) : Type 0 where
  pub most : (k : ℕ) → get_or t k 0 ≤ b

-- t' is t with one word of a node counted
pub record Ticks (p : Role) (w : ℕ) (t t' : List ℕ) : Type 0 where
  pub long : length t' ≡ length t
  pub adds : (k : ℕ) → k < length t → get_or t' k 0 ≡ get_or t k 0 + hit p w k

-- and with the three words of a node counted
pub record TicksAll (r : Row) (x : Node) (t t' : List ℕ) : Type 0 where
  pub long : length t' ≡ length t
  pub adds : (k : ℕ)
      → k < length t
      → get_or t' k 0 ≡ get_or t k 0 + (hit r.a x.a k + hit r.b x.b k + hit r.c x.c k)

-- the uses by the nodes below m
pub record Counts (img : List ℕ) (m : ℕ) (t : List ℕ) : Type 0 where
  pub long : nodes_of img ≤ length t
  pub counts : (k : ℕ) → k < length t → get_or t k 0 ≡ uses_of img k m
