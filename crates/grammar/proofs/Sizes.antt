-- The table of a tree has as many nodes as the tree: `length-cmd`. With the lengths of lists that end in a node behind its children's, which
-- serve for other lists of a tree's nodes too. Assumes nothing.
use Prim.Native.Nat.{ℕ, suc, ◌+◌}
use mathlib.Core.Path.{◌≡◌, refl, ◌∙◌}
use mathlib.Core.List.{List, [], ◌∷◌, ◌++◌}
use native.Mathlib.Omega.{arith}
use lib.ListN.{length, length-append}
use Rattle.rules.specs.Syntax.{Exp, Test, Cmd, no_exp, field, int, diff, null, ref, select, proc, no_test, is_true, is_false, equal, less, no_cmd, var, call, malloc, assign, assign_field, skip, seq, while, if, par, atom}
use Rattle.grammar.specs.Nodes.{size_exp, size_test, size_cmd, table_exp, table_test, table_cmd}

module _ {A : Type 0} (x : A) where
  pub behind-one : (xs : List A) {s : ℕ} → length xs ≡ s → length (xs ++ (x ∷ [])) ≡ suc s
  behind-one xs p = length-append xs (x ∷ []) ∙ omega arith

  pub behind-two : (xs ys : List A) {s t : ℕ} → length xs ≡ s → length ys ≡ t → length ((xs ++ ys) ++ (x ∷ [])) ≡ suc (s + t)
  behind-two xs ys p q = behind-one (xs ++ ys) (length-append xs ys ∙ omega arith)

  pub behind-three : (xs ys zs : List A) {s t u : ℕ} → length xs ≡ s → length ys ≡ t → length zs ≡ u
      → length ((xs ++ (ys ++ zs)) ++ (x ∷ [])) ≡ suc (s + (t + u))
  behind-three xs ys zs p q r = behind-two xs (ys ++ zs) p (length-append ys zs ∙ omega arith)

mutual
  unfolding table_exp size_exp

  pub length-exp : (n : ℕ) (e : Exp) → length (table_exp n e) ≡ size_exp e
  length-exp n (no_exp k) = refl
  length-exp n (field k f) = refl
  length-exp n (int k b) = refl
  length-exp n (diff k a b) = behind-two _ (table_exp n a) (table_exp (n + size_exp a) b) (length-exp n a) (length-exp (n + size_exp a) b)
  length-exp n (null k) = refl
  length-exp n (ref k x) = refl
  length-exp n (select k a b) = behind-two _ (table_exp n a) (table_exp (n + size_exp a) b) (length-exp n a) (length-exp (n + size_exp a) b)
  length-exp n (proc k y c) = behind-one _ (table_cmd n c) (length-cmd n c)

  pub length-test : (n : ℕ) (t : Test) → length (table_test n t) ≡ size_test t
  length-test n (no_test k) = refl
  length-test n (is_true k) = refl
  length-test n (is_false k) = refl
  length-test n (equal k a b) = behind-two _ (table_exp n a) (table_exp (n + size_exp a) b) (length-exp n a) (length-exp (n + size_exp a) b)
  length-test n (less k a b) = behind-two _ (table_exp n a) (table_exp (n + size_exp a) b) (length-exp n a) (length-exp (n + size_exp a) b)

  pub length-cmd : (n : ℕ) (c : Cmd) → length (table_cmd n c) ≡ size_cmd c
  length-cmd n (no_cmd k) = refl
  length-cmd n (var k x c) = behind-one _ (table_cmd n c) (length-cmd n c)
  length-cmd n (call k a b) = behind-two _ (table_exp n a) (table_exp (n + size_exp a) b) (length-exp n a) (length-exp (n + size_exp a) b)
  length-cmd n (malloc k x) = refl
  length-cmd n (assign k x e) = behind-one _ (table_exp n e) (length-exp n e)
  length-cmd n (assign_field k a b c) =
      behind-three _
      (table_exp n a) (table_exp (n + size_exp a) b) (table_exp (n + size_exp a + size_exp b) c)
      (length-exp n a) (length-exp (n + size_exp a) b) (length-exp (n + size_exp a + size_exp b) c)
  length-cmd n (skip k) = refl
  length-cmd n (seq k c d) = behind-two _ (table_cmd n c) (table_cmd (n + size_cmd c) d) (length-cmd n c) (length-cmd (n + size_cmd c) d)
  length-cmd n (while k t c) = behind-two _ (table_test n t) (table_cmd (n + size_test t) c) (length-test n t) (length-cmd (n + size_test t) c)
  length-cmd n (if k t c d) =
      behind-three _
      (table_test n t) (table_cmd (n + size_test t) c) (table_cmd (n + size_test t + size_cmd c) d)
      (length-test n t) (length-cmd (n + size_test t) c) (length-cmd (n + size_test t + size_cmd c) d)
  length-cmd n (par k c d) = behind-two _ (table_cmd n c) (table_cmd (n + size_cmd c) d) (length-cmd n c) (length-cmd (n + size_cmd c) d)
  length-cmd n (atom k c) = behind-one _ (table_cmd n c) (length-cmd n c)
