-- Each tree within the limits has a node. Assumes nothing.
use Prim.Native.Nat.{ℕ, ◌≤◌}
use native.Mathlib.Omega.{arith}
use Rattle.rules.specs.Syntax.{Exp, Test, Cmd, no_exp, field, int, diff, null, ref, select, proc, no_test, is_true, is_false, equal, less, no_cmd, var, call, malloc, assign, assign_field, skip, seq, while, if, par, atom}
use Rattle.grammar.specs.Nodes.{size_exp, size_test, size_cmd}
use Rattle.grammar.specs.Proper.{ProperExp, ProperTest, ProperCmd}

module _ (P Q : ℕ → Type 0) where
  pub some-exp : (e : Exp) → ProperExp P Q e → 1 ≤ size_exp e
  unfolding size_exp
  some-exp (no_exp n) p = absurd p
  some-exp (field n f) p = omega arith
  some-exp (int n b) p = omega arith
  some-exp (diff n a b) p = omega arith
  some-exp (null n) p = omega arith
  some-exp (ref n x) p = omega arith
  some-exp (select n a b) p = omega arith
  some-exp (proc n y c) p = omega arith

  pub some-test : (t : Test) → ProperTest P Q t → 1 ≤ size_test t
  unfolding size_test
  some-test (no_test n) p = absurd p
  some-test (is_true n) p = omega arith
  some-test (is_false n) p = omega arith
  some-test (equal n a b) p = omega arith
  some-test (less n a b) p = omega arith

  pub some-cmd : (c : Cmd) → ProperCmd P Q c → 1 ≤ size_cmd c
  unfolding size_cmd
  some-cmd (no_cmd n) p = absurd p
  some-cmd (var n x c) p = omega arith
  some-cmd (call n a b) p = omega arith
  some-cmd (malloc n x) p = omega arith
  some-cmd (assign n x e) p = omega arith
  some-cmd (assign_field n a b c) p = omega arith
  some-cmd (skip n) p = omega arith
  some-cmd (seq n c d) p = omega arith
  some-cmd (while n t c) p = omega arith
  some-cmd (if n t c d) p = omega arith
  some-cmd (par n c d) p = omega arith
  some-cmd (atom n c) p = omega arith
