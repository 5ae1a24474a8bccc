-- A tree has as many items as nodes: `items-long`. Assumes nothing.
use mathlib.Core.Path.{◌≡◌, refl}
use lib.ListN.{length}
use Rattle.rules.specs.Syntax.{Exp, Test, Cmd, no_exp, field, int, diff, null, ref, select, proc, no_test, is_true, is_false, equal, less, no_cmd, var, call, malloc, assign, assign_field, skip, seq, while, if, par, atom}
use Rattle.grammar.specs.Nodes.{size_exp, size_test, size_cmd}
use Rattle.grammar.proofs.Sizes.{behind-one, behind-two, behind-three}
use Rattle.reading.specs.Items.{items_exp, items_test, items_cmd}

mutual
  unfolding items_exp size_exp

  exp-long : (e : Exp) → length (items_exp e) ≡ size_exp e
  exp-long (no_exp k) = refl
  exp-long (field k f) = refl
  exp-long (int k b) = refl
  exp-long (diff k a b) = behind-two _ (items_exp a) (items_exp b) (exp-long a) (exp-long b)
  exp-long (null k) = refl
  exp-long (ref k x) = refl
  exp-long (select k a b) = behind-two _ (items_exp a) (items_exp b) (exp-long a) (exp-long b)
  exp-long (proc k y c) = behind-one _ (items_cmd c) (items-long c)

  test-long : (t : Test) → length (items_test t) ≡ size_test t
  test-long (no_test k) = refl
  test-long (is_true k) = refl
  test-long (is_false k) = refl
  test-long (equal k a b) = behind-two _ (items_exp a) (items_exp b) (exp-long a) (exp-long b)
  test-long (less k a b) = behind-two _ (items_exp a) (items_exp b) (exp-long a) (exp-long b)

  pub items-long : (c : Cmd) → length (items_cmd c) ≡ size_cmd c
  items-long (no_cmd k) = refl
  items-long (var k x c) = behind-one _ (items_cmd c) (items-long c)
  items-long (call k a b) = behind-two _ (items_exp a) (items_exp b) (exp-long a) (exp-long b)
  items-long (malloc k x) = refl
  items-long (assign k x e) = behind-one _ (items_exp e) (exp-long e)
  items-long (assign_field k a b c) = behind-three _ (items_exp a) (items_exp b) (items_exp c) (exp-long a) (exp-long b) (exp-long c)
  items-long (skip k) = refl
  items-long (seq k c d) = behind-two _ (items_cmd c) (items_cmd d) (items-long c) (items-long d)
  items-long (while k t c) = behind-two _ (items_test t) (items_cmd c) (test-long t) (items-long c)
  items-long (if k t c d) = behind-three _ (items_test t) (items_cmd c) (items_cmd d) (test-long t) (items-long c) (items-long d)
  items-long (par k c d) = behind-two _ (items_cmd c) (items_cmd d) (items-long c) (items-long d)
  items-long (atom k c) = behind-one _ (items_cmd c) (items-long c)
