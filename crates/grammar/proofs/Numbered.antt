-- A tree with the numbers of its nodes in the table: the first node is n, children come first, left before right, and the last node is the tree's own
-- (`root-cmd`). Wiped it is the tree (`bare-numbered`), and each of the numbers from n on stands in it once (`count-cmd`). Assumes nothing.
use Prim.Native.Nat.{ℕ, zero, suc, ◌+◌, ◌<◌, ◌≤◌}
use mathlib.Core.Path.{◌≡◌, refl, sym}
use mathlib.Core.Logic.{⊎_elim}
use native.Mathlib.Omega.{arith}
use native.Mathlib.Nat.{eq-or-lt_of_le}
use Rattle.rules.specs.Syntax.{Exp, Test, Cmd, no_exp, field, int, diff, null, ref, select, proc, no_test, is_true, is_false, equal, less, no_cmd, var, call, malloc, assign, assign_field, skip, seq, while, if, par, atom, exp_no, test_no, cmd_no, bare_exp, bare_test, bare_cmd}
use Rattle.rules.proofs.Writing.{one, count_exp, count_test, count_cmd}
use Rattle.rules.proofs.Sums.{one_same, one-other}
use Rattle.grammar.specs.Nodes.{size_exp, size_test, size_cmd, last_of}
use Rattle.grammar.specs.Proper.{ProperExp, ProperTest, ProperCmd}

unfoldable mutual
  pub numbered_exp : ℕ → Exp → Exp
  numbered_exp n (no_exp k) = no_exp (last_of n 0)
  numbered_exp n (field k f) = field n f
  numbered_exp n (int k b) = int n b
  numbered_exp n (diff k a b) = diff (n + (size_exp a + size_exp b)) (numbered_exp n a) (numbered_exp (n + size_exp a) b)
  numbered_exp n (null k) = null n
  numbered_exp n (ref k x) = ref n x
  numbered_exp n (select k a b) = select (n + (size_exp a + size_exp b)) (numbered_exp n a) (numbered_exp (n + size_exp a) b)
  numbered_exp n (proc k y c) = proc (n + size_cmd c) y (numbered_cmd n c)

  pub numbered_test : ℕ → Test → Test
  numbered_test n (no_test k) = no_test (last_of n 0)
  numbered_test n (is_true k) = is_true n
  numbered_test n (is_false k) = is_false n
  numbered_test n (equal k a b) = equal (n + (size_exp a + size_exp b)) (numbered_exp n a) (numbered_exp (n + size_exp a) b)
  numbered_test n (less k a b) = less (n + (size_exp a + size_exp b)) (numbered_exp n a) (numbered_exp (n + size_exp a) b)

  pub numbered_cmd : ℕ → Cmd → Cmd
  numbered_cmd n (no_cmd k) = no_cmd (last_of n 0)
  numbered_cmd n (var k x c) = var (n + size_cmd c) x (numbered_cmd n c)
  numbered_cmd n (call k a b) = call (n + (size_exp a + size_exp b)) (numbered_exp n a) (numbered_exp (n + size_exp a) b)
  numbered_cmd n (malloc k x) = malloc n x
  numbered_cmd n (assign k x e) = assign (n + size_exp e) x (numbered_exp n e)
  numbered_cmd n (assign_field k a b c) =
      assign_field
      (n + (size_exp a + (size_exp b + size_exp c)))
      (numbered_exp n a) (numbered_exp (n + size_exp a) b) (numbered_exp (n + size_exp a + size_exp b) c)
  numbered_cmd n (skip k) = skip n
  numbered_cmd n (seq k c d) = seq (n + (size_cmd c + size_cmd d)) (numbered_cmd n c) (numbered_cmd (n + size_cmd c) d)
  numbered_cmd n (while k t c) = while (n + (size_test t + size_cmd c)) (numbered_test n t) (numbered_cmd (n + size_test t) c)
  numbered_cmd n (if k t c d) =
      if
      (n + (size_test t + (size_cmd c + size_cmd d)))
      (numbered_test n t) (numbered_cmd (n + size_test t) c) (numbered_cmd (n + size_test t + size_cmd c) d)
  numbered_cmd n (par k c d) = par (n + (size_cmd c + size_cmd d)) (numbered_cmd n c) (numbered_cmd (n + size_cmd c) d)
  numbered_cmd n (atom k c) = atom (n + size_cmd c) (numbered_cmd n c)

-- ---- the tree's own node is the last

pub root-exp : (n : ℕ) (e : Exp) → exp_no (numbered_exp n e) ≡ last_of n (size_exp e)
unfolding numbered_exp exp_no size_exp last_of
root-exp n (no_exp k) = refl
root-exp n (field k f) = omega arith
root-exp n (int k b) = omega arith
root-exp n (diff k a b) = omega arith
root-exp n (null k) = omega arith
root-exp n (ref k x) = omega arith
root-exp n (select k a b) = omega arith
root-exp n (proc k y c) = omega arith

pub root-test : (n : ℕ) (t : Test) → test_no (numbered_test n t) ≡ last_of n (size_test t)
unfolding numbered_test test_no size_test last_of
root-test n (no_test k) = refl
root-test n (is_true k) = omega arith
root-test n (is_false k) = omega arith
root-test n (equal k a b) = omega arith
root-test n (less k a b) = omega arith

pub root-cmd : (n : ℕ) (c : Cmd) → cmd_no (numbered_cmd n c) ≡ last_of n (size_cmd c)
unfolding numbered_cmd cmd_no size_cmd last_of
root-cmd n (no_cmd k) = refl
root-cmd n (var k x c) = omega arith
root-cmd n (call k a b) = omega arith
root-cmd n (malloc k x) = omega arith
root-cmd n (assign k x e) = omega arith
root-cmd n (assign_field k a b c) = omega arith
root-cmd n (skip k) = omega arith
root-cmd n (seq k c d) = omega arith
root-cmd n (while k t c) = omega arith
root-cmd n (if k t c d) = omega arith
root-cmd n (par k c d) = omega arith
root-cmd n (atom k c) = omega arith

-- ---- wiped, it is the tree

mutual
  unfolding numbered_exp bare_exp

  bare-exp : (n : ℕ) (e : Exp) → bare_exp (numbered_exp n e) ≡ bare_exp e
  bare-exp n (no_exp k) = refl
  bare-exp n (field k f) = refl
  bare-exp n (int k b) = refl
  bare-exp n (diff k a b) = rw (bare-exp n a, bare-exp (n + size_exp a) b)
  bare-exp n (null k) = refl
  bare-exp n (ref k x) = refl
  bare-exp n (select k a b) = rw (bare-exp n a, bare-exp (n + size_exp a) b)
  bare-exp n (proc k y c) = rw (bare-numbered n c)

  bare-test : (n : ℕ) (t : Test) → bare_test (numbered_test n t) ≡ bare_test t
  bare-test n (no_test k) = refl
  bare-test n (is_true k) = refl
  bare-test n (is_false k) = refl
  bare-test n (equal k a b) = rw (bare-exp n a, bare-exp (n + size_exp a) b)
  bare-test n (less k a b) = rw (bare-exp n a, bare-exp (n + size_exp a) b)

  pub bare-numbered : (n : ℕ) (c : Cmd) → bare_cmd (numbered_cmd n c) ≡ bare_cmd c
  bare-numbered n (no_cmd k) = refl
  bare-numbered n (var k x c) = rw (bare-numbered n c)
  bare-numbered n (call k a b) = rw (bare-exp n a, bare-exp (n + size_exp a) b)
  bare-numbered n (malloc k x) = refl
  bare-numbered n (assign k x e) = rw (bare-exp n e)
  bare-numbered n (assign_field k a b c) = rw (bare-exp n a, bare-exp (n + size_exp a) b, bare-exp (n + size_exp a + size_exp b) c)
  bare-numbered n (skip k) = refl
  bare-numbered n (seq k c d) = rw (bare-numbered n c, bare-numbered (n + size_cmd c) d)
  bare-numbered n (while k t c) = rw (bare-test n t, bare-numbered (n + size_test t) c)
  bare-numbered n (if k t c d) = rw (bare-test n t, bare-numbered (n + size_test t) c, bare-numbered (n + size_test t + size_cmd c) d)
  bare-numbered n (par k c d) = rw (bare-numbered n c, bare-numbered (n + size_cmd c) d)
  bare-numbered n (atom k c) = rw (bare-numbered n c)

-- ---- each number stands in it once

-- how often k is among s numbers from n on
unfoldable pub among : ℕ → ℕ → ℕ → ℕ
among n zero k = 0
among n (suc s) k = one k (n + s) + among n s k

among-past : (n s k : ℕ) → n + s ≤ k → among n s k ≡ 0
unfolding among
among-past n zero k l = refl
among-past n (suc s) k l = rw (one-other k (n + s) (λ e. omega arith), among-past n s k (omega arith))

pub among-once : (n s k : ℕ) → n ≤ k → k < n + s → among n s k ≡ 1
unfolding among
among-once n zero k l m = absurd (omega arith)
among-once n (suc s) k l m =
    ⊎_elim
    (λ (e : k ≡ n + s). rw (sym e, one_same k, among-past n s k (omega arith)))
    (λ (h : k < n + s). rw (one-other k (n + s) (λ e. omega arith), among-once n s k l h))
    (eq-or-lt_of_le {n = k} {m = n + s} (omega arith))

among-add : (n s t k : ℕ) → among n (s + t) k ≡ among n s k + among (n + s) t k
unfolding among
among-add n s zero k = let e : s + 0 ≡ s = omega arith in rw e (omega arith)
among-add n s (suc t) k =
    let e : s + suc t ≡ suc (s + t) = omega arith in
    let f : n + (s + t) ≡ n + s + t = omega arith in
    rw (e, f) (omega (arith, among-add n s t k))

module _ (n k : ℕ) where
  alone : one k n ≡ among n 1 k
  unfolding among
  alone = let e : n + 0 ≡ n = omega arith in rw e (omega arith)

  with-one : (s : ℕ) {x : ℕ} → x ≡ among n s k → one k (n + s) + x ≡ among n (suc s) k
  unfolding among
  with-one s p = omega arith

  with_two : (s t : ℕ) {x y : ℕ} → x ≡ among n s k → y ≡ among (n + s) t k → one k (n + (s + t)) + x + y ≡ among n (suc (s + t)) k
  unfolding among
  with_two s t p q = omega (arith, among-add n s t k)

  with-three : (s t u : ℕ) {x y z : ℕ} → x ≡ among n s k → y ≡ among (n + s) t k → z ≡ among (n + s + t) u k
      → one k (n + (s + (t + u))) + x + y + z ≡ among n (suc (s + (t + u))) k
  unfolding among
  with-three s t u p q r = omega (arith, among-add n s (t + u) k, among-add (n + s) t u k)

module _ (P Q : ℕ → Type 0) (k : ℕ) where
  mutual
    unfolding numbered_exp size_exp count_exp

    count-exp : (n : ℕ) (e : Exp) → ProperExp P Q e → count_exp k (numbered_exp n e) ≡ among n (size_exp e) k
    count-exp n (no_exp i) p = absurd p
    count-exp n (field i f) p = alone n k
    count-exp n (int i b) p = alone n k
    count-exp n (diff i a b) p = with_two n k (size_exp a) (size_exp b) (count-exp n a p.0) (count-exp (n + size_exp a) b p.1)
    count-exp n (null i) p = alone n k
    count-exp n (ref i x) p = alone n k
    count-exp n (select i a b) p = with_two n k (size_exp a) (size_exp b) (count-exp n a p.0) (count-exp (n + size_exp a) b p.1)
    count-exp n (proc i y c) p = with-one n k (size_cmd c) (count-cmd n c p.1)

    count-test : (n : ℕ) (t : Test) → ProperTest P Q t → count_test k (numbered_test n t) ≡ among n (size_test t) k
    count-test n (no_test i) p = absurd p
    count-test n (is_true i) p = alone n k
    count-test n (is_false i) p = alone n k
    count-test n (equal i a b) p = with_two n k (size_exp a) (size_exp b) (count-exp n a p.0) (count-exp (n + size_exp a) b p.1)
    count-test n (less i a b) p = with_two n k (size_exp a) (size_exp b) (count-exp n a p.0) (count-exp (n + size_exp a) b p.1)

    pub count-cmd : (n : ℕ) (c : Cmd) → ProperCmd P Q c → count_cmd k (numbered_cmd n c) ≡ among n (size_cmd c) k
    count-cmd n (no_cmd i) p = absurd p
    count-cmd n (var i x c) p = with-one n k (size_cmd c) (count-cmd n c p.1)
    count-cmd n (call i a b) p = with_two n k (size_exp a) (size_exp b) (count-exp n a p.0) (count-exp (n + size_exp a) b p.1)
    count-cmd n (malloc i x) p = alone n k
    count-cmd n (assign i x e) p = with-one n k (size_exp e) (count-exp n e p.1)
    count-cmd n (assign_field i a b c) p =
        with-three n k (size_exp a) (size_exp b) (size_exp c)
        (count-exp n a p.0) (count-exp (n + size_exp a) b p.1) (count-exp (n + size_exp a + size_exp b) c p.2)
    count-cmd n (skip i) p = alone n k
    count-cmd n (seq i c d) p = with_two n k (size_cmd c) (size_cmd d) (count-cmd n c p.0) (count-cmd (n + size_cmd c) d p.1)
    count-cmd n (while i t c) p = with_two n k (size_test t) (size_cmd c) (count-test n t p.0) (count-cmd (n + size_test t) c p.1)
    count-cmd n (if i t c d) p =
        with-three n k (size_test t) (size_cmd c) (size_cmd d)
        (count-test n t p.0) (count-cmd (n + size_test t) c p.1) (count-cmd (n + size_test t + size_cmd c) d p.2)
    count-cmd n (par i c d) p = with_two n k (size_cmd c) (size_cmd d) (count-cmd n c p.0) (count-cmd (n + size_cmd c) d p.1)
    count-cmd n (atom i c) p = with-one n k (size_cmd c) (count-cmd n c p)
