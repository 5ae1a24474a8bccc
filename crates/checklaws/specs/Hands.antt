-- Rule 9 from the last node down: each node hands its visible names to its children, and `var` and `proc` add theirs.
-- `handed visible img n k` are the names that node k holds once the nodes from n up have handed down; the root
-- holds those visible there. A node
-- strays when it uses a name that it doesn't hold. That this is the strays of the tree, in a script whose nodes fit and
-- are each used once, is shown in proofs/Hands. Assumes nothing.
use Rattle.std.specs.Prelude.{ℕ, zero, suc, ◌+◌, ◌-◌, ◌<◌, ◌≡◌, Bool, cond, List, [], eqb, ltb}
use Rattle.std.proofs.Math.Option.{some}
use Rattle.rules.specs.declared.Kind.TheVariants.{Cmd as a_cmd}
use Rattle.rules.specs.Image.{kind_of, row_of, nodes_of, node_at}
use Rattle.rules.specs.Scope.{Names}
use Rattle.rules.specs.Refusals.{hits, uses_of}
use Rattle.rules.proofs.GoodFacts.{Sized, GoodRow}
use Rattle.rules.proofs.StrayRows.{stray_row, grow_row}

-- what is known of a script when rule 9 is looked at
pub record Formed (img : List ℕ) : Type 0 where
  pub sized : Sized img
  pub nodes : (n : ℕ) → n < nodes_of img → GoodRow img n (row_of (node_at img n).tag) (node_at img n)
  pub once : (n : ℕ) → suc n < nodes_of img → uses_of img n (nodes_of img) ≡ 1
  pub root : kind_of (node_at img (nodes_of img - 1)).tag ≡ some a_cmd

module _ (visible : Names) (img : List ℕ) where
  -- node n, which holds T n, hands down
  unfoldable pub hand_on : ℕ → (ℕ → Names) → ℕ → Names
  hand_on n T k =
      cond (ltb 0 (hits (row_of (node_at img n).tag) (node_at img n) k))
      (grow_row (T n) (row_of (node_at img n).tag) (node_at img n))
      (T k)

  -- the last j nodes have handed down; before the first has, the last holds the names visible at the root, and no other any
  unfoldable pub handed_by : ℕ → ℕ → Names
  handed_by zero k = cond (eqb (k + 1) (nodes_of img)) visible []
  handed_by (suc j) k = hand_on (nodes_of img - suc j) (handed_by j) k

  -- the nodes from n up have
  unfoldable pub handed : ℕ → ℕ → Names
  handed n k = handed_by (nodes_of img - n) k

  unfoldable pub stray_at : ℕ → Bool
  stray_at n = stray_row (handed (n + 1) n) (row_of (node_at img n).tag) (node_at img n)
