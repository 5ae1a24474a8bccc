-- The nodes of a written script: order 1, "Nodes are written children first, left before right". The table of a tree whose first node gets the
-- number n; a tree of s nodes ends with its own node, n + s - 1. Assumes nothing.
use Rattle.std.specs.Prelude.{ℕ, suc, ◌+◌, ◌-◌, ◌/◌, ◌%◌, List, [], ◌∷◌, ◌++◌}
use Rattle.rules.specs.Syntax.{Exp, Test, Cmd, no_exp, field, int, diff, null, ref, select, proc, no_test, is_true, is_false, equal, less, no_cmd, var, call, malloc, assign, assign_field, skip, seq, while, if, par, atom}
use Rattle.rules.specs.declared.Node.{Node}

-- how many nodes a tree has
unfoldable mutual
  pub size_exp : Exp → ℕ
  size_exp (no_exp k) = 0
  size_exp (field k f) = 1
  size_exp (int k b) = 1
  size_exp (diff k a b) = suc (size_exp a + size_exp b)
  size_exp (null k) = 1
  size_exp (ref k x) = 1
  size_exp (select k a b) = suc (size_exp a + size_exp b)
  size_exp (proc k y c) = suc (size_cmd c)

  pub size_test : Test → ℕ
  size_test (no_test k) = 0
  size_test (is_true k) = 1
  size_test (is_false k) = 1
  size_test (equal k a b) = suc (size_exp a + size_exp b)
  size_test (less k a b) = suc (size_exp a + size_exp b)

  pub size_cmd : Cmd → ℕ
  size_cmd (no_cmd k) = 0
  size_cmd (var k x c) = suc (size_cmd c)
  size_cmd (call k a b) = suc (size_exp a + size_exp b)
  size_cmd (malloc k x) = 1
  size_cmd (assign k x e) = suc (size_exp e)
  size_cmd (assign_field k a b c) = suc (size_exp a + (size_exp b + size_exp c))
  size_cmd (skip k) = 1
  size_cmd (seq k c d) = suc (size_cmd c + size_cmd d)
  size_cmd (while k t c) = suc (size_test t + size_cmd c)
  size_cmd (if k t c d) = suc (size_test t + (size_cmd c + size_cmd d))
  size_cmd (par k c d) = suc (size_cmd c + size_cmd d)
  size_cmd (atom k c) = suc (size_cmd c)

-- tag, a, b, c
unfoldable pub words : ℕ → ℕ → ℕ → ℕ → Node
words t a b c = record { tag = t; a = a; b = b; c = c }

-- the number of the last of s nodes that begin with n
unfoldable pub last_of : ℕ → ℕ → ℕ
last_of n s = n + s - 1

unfoldable mutual
  pub table_exp : ℕ → Exp → List Node
  table_exp n (no_exp k) = []
  table_exp n (field k f) = words 1 f 0 0 ∷ []
  table_exp n (int k b) = words 2 (b % 65536) (b / 65536) 0 ∷ []
  table_exp n (diff k a b) =
      (table_exp n a ++ table_exp (n + size_exp a) b)
      ++ (words 3 (last_of n (size_exp a)) (last_of (n + size_exp a) (size_exp b)) 0 ∷ [])
  table_exp n (null k) = words 4 0 0 0 ∷ []
  table_exp n (ref k x) = words 5 x 0 0 ∷ []
  table_exp n (select k a b) =
      (table_exp n a ++ table_exp (n + size_exp a) b)
      ++ (words 6 (last_of n (size_exp a)) (last_of (n + size_exp a) (size_exp b)) 0 ∷ [])
  table_exp n (proc k y c) = table_cmd n c ++ (words 7 y (last_of n (size_cmd c)) 0 ∷ [])

  pub table_test : ℕ → Test → List Node
  table_test n (no_test k) = []
  table_test n (is_true k) = words 16 0 0 0 ∷ []
  table_test n (is_false k) = words 17 0 0 0 ∷ []
  table_test n (equal k a b) =
      (table_exp n a ++ table_exp (n + size_exp a) b)
      ++ (words 18 (last_of n (size_exp a)) (last_of (n + size_exp a) (size_exp b)) 0 ∷ [])
  table_test n (less k a b) =
      (table_exp n a ++ table_exp (n + size_exp a) b)
      ++ (words 19 (last_of n (size_exp a)) (last_of (n + size_exp a) (size_exp b)) 0 ∷ [])

  pub table_cmd : ℕ → Cmd → List Node
  table_cmd n (no_cmd k) = []
  table_cmd n (var k x c) = table_cmd n c ++ (words 32 x (last_of n (size_cmd c)) 0 ∷ [])
  table_cmd n (call k a b) =
      (table_exp n a ++ table_exp (n + size_exp a) b)
      ++ (words 33 (last_of n (size_exp a)) (last_of (n + size_exp a) (size_exp b)) 0 ∷ [])
  table_cmd n (malloc k x) = words 34 x 0 0 ∷ []
  table_cmd n (assign k x e) = table_exp n e ++ (words 35 x (last_of n (size_exp e)) 0 ∷ [])
  table_cmd n (assign_field k a b c) =
      (table_exp n a ++ (table_exp (n + size_exp a) b ++ table_exp (n + size_exp a + size_exp b) c))
      ++ (words 36 (last_of n (size_exp a)) (last_of (n + size_exp a) (size_exp b)) (last_of (n + size_exp a + size_exp b) (size_exp c)) ∷ [])
  table_cmd n (skip k) = words 37 0 0 0 ∷ []
  table_cmd n (seq k c d) =
      (table_cmd n c ++ table_cmd (n + size_cmd c) d)
      ++ (words 38 (last_of n (size_cmd c)) (last_of (n + size_cmd c) (size_cmd d)) 0 ∷ [])
  table_cmd n (while k t c) =
      (table_test n t ++ table_cmd (n + size_test t) c)
      ++ (words 39 (last_of n (size_test t)) (last_of (n + size_test t) (size_cmd c)) 0 ∷ [])
  table_cmd n (if k t c d) =
      (table_test n t ++ (table_cmd (n + size_test t) c ++ table_cmd (n + size_test t + size_cmd c) d))
      ++ (words 40 (last_of n (size_test t)) (last_of (n + size_test t) (size_cmd c)) (last_of (n + size_test t + size_cmd c) (size_cmd d)) ∷ [])
  table_cmd n (par k c d) =
      (table_cmd n c ++ table_cmd (n + size_cmd c) d)
      ++ (words 41 (last_of n (size_cmd c)) (last_of (n + size_cmd c) (size_cmd d)) 0 ∷ [])
  table_cmd n (atom k c) = table_cmd n c ++ (words 42 (last_of n (size_cmd c)) 0 0 ∷ [])
