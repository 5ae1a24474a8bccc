-- The nodes of a tree, children first, left before right: order 1, "Nodes are written children first, left before right". An item is a node
-- without the numbers of its children: its tag, and its name, field index or integer. Assumes nothing.
use Rattle.std.specs.Prelude.{ℕ, List, [], ◌∷◌, ◌++◌}
use Rattle.rules.specs.Syntax.{Exp, Test, Cmd, no_exp, field, int, diff, null, ref, select, proc, no_test, is_true, is_false, equal, less, no_cmd, var, call, malloc, assign, assign_field, skip, seq, while, if, par, atom}

pub data Item : Type 0 where
  put : ℕ → ℕ → Item  -- tag, value

-- nothing is written for what is no expression, test or command
unfoldable mutual
  pub items_exp : Exp → List Item
  items_exp (no_exp n) = []
  items_exp (field n f) = put 1 f ∷ []
  items_exp (int n b) = put 2 b ∷ []
  items_exp (diff n a b) = (items_exp a ++ items_exp b) ++ (put 3 0 ∷ [])
  items_exp (null n) = put 4 0 ∷ []
  items_exp (ref n x) = put 5 x ∷ []
  items_exp (select n a b) = (items_exp a ++ items_exp b) ++ (put 6 0 ∷ [])
  items_exp (proc n y c) = items_cmd c ++ (put 7 y ∷ [])

  pub items_test : Test → List Item
  items_test (no_test n) = []
  items_test (is_true n) = put 16 0 ∷ []
  items_test (is_false n) = put 17 0 ∷ []
  items_test (equal n a b) = (items_exp a ++ items_exp b) ++ (put 18 0 ∷ [])
  items_test (less n a b) = (items_exp a ++ items_exp b) ++ (put 19 0 ∷ [])

  pub items_cmd : Cmd → List Item
  items_cmd (no_cmd n) = []
  items_cmd (var n x c) = items_cmd c ++ (put 32 x ∷ [])
  items_cmd (call n a b) = (items_exp a ++ items_exp b) ++ (put 33 0 ∷ [])
  items_cmd (malloc n x) = put 34 x ∷ []
  items_cmd (assign n x e) = items_exp e ++ (put 35 x ∷ [])
  items_cmd (assign_field n a b c) = (items_exp a ++ (items_exp b ++ items_exp c)) ++ (put 36 0 ∷ [])
  items_cmd (skip n) = put 37 0 ∷ []
  items_cmd (seq n c d) = (items_cmd c ++ items_cmd d) ++ (put 38 0 ∷ [])
  items_cmd (while n t c) = (items_test t ++ items_cmd c) ++ (put 39 0 ∷ [])
  items_cmd (if n t c d) = (items_test t ++ (items_cmd c ++ items_cmd d)) ++ (put 40 0 ∷ [])
  items_cmd (par n c d) = (items_cmd c ++ items_cmd d) ++ (put 41 0 ∷ [])
  items_cmd (atom n c) = items_cmd c ++ (put 42 0 ∷ [])
