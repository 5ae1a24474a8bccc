-- The tree of a published image is one that can be written: nothing is missing in it, its fields and names are the image's, and it has as many nodes
-- as the image. Assumes nothing.
use Prim.Native.Nat.{ℕ, zero, suc, ◌+◌, ◌<◌}
use mathlib.Core.Path.{◌≡◌, refl, sym, ◌∙◌}
use mathlib.Core.Option.{some}
use mathlib.Core.List.{List}
use native.Mathlib.Omega.{arith}
use lib.ListN.{length, get_elem?}
use Rattle.laws.specs.Lists.{entry-below}
use Rattle.rules.specs.Syntax.{Exp, Test, Cmd, no_exp, field, int, diff, null, ref, select, proc, no_test, is_true, is_false, equal, less, no_cmd, var, call, malloc, assign, assign_field, skip, seq, while, if, par, atom}
use Rattle.rules.specs.declared.Node.{Node}
use Rattle.rules.proofs.Writing.{WroteExp, WroteTest, WroteCmd, one, count_exp, count_test, count_cmd}
use Rattle.rules.proofs.Sums.{sum, total, sum-add, sum_one, sum-of-ones}
use Rattle.grammar.specs.Nodes.{size_exp, size_test, size_cmd}
use Rattle.grammar.specs.Proper.{ProperExp, ProperTest, ProperCmd, Field}

module _ (nodes : List Node) (F N : ℕ) where
  -- ---- nothing is missing

  module _ (Q : ℕ → Type 0) (names : (x : ℕ) → x < N → Q x) where
    mutual
      proper-exp : (e : Exp) → WroteExp nodes F N e → ProperExp (Field F) Q e
      proper-exp (no_exp n) w = w
      proper-exp (field n f) w = (w.1, w.2)
      proper-exp (int n b) w = w.1
      proper-exp (diff n a b) w = (proper-exp a w.3, proper-exp b w.4)
      proper-exp (null n) w = tt
      proper-exp (ref n x) w = names x w.1
      proper-exp (select n a b) w = (proper-exp a w.3, proper-exp b w.4)
      proper-exp (proc n y c) w = (names y w.1, wrote-proper c w.3)

      proper-test : (t : Test) → WroteTest nodes F N t → ProperTest (Field F) Q t
      proper-test (no_test n) w = w
      proper-test (is_true n) w = tt
      proper-test (is_false n) w = tt
      proper-test (equal n a b) w = (proper-exp a w.3, proper-exp b w.4)
      proper-test (less n a b) w = (proper-exp a w.3, proper-exp b w.4)

      pub wrote-proper : (c : Cmd) → WroteCmd nodes F N c → ProperCmd (Field F) Q c
      wrote-proper (no_cmd n) w = w
      wrote-proper (var n x c) w = (names x w.1, wrote-proper c w.3)
      wrote-proper (call n a b) w = (proper-exp a w.3, proper-exp b w.4)
      wrote-proper (malloc n x) w = names x w.1
      wrote-proper (assign n x e) w = (names x w.1, proper-exp e w.3)
      wrote-proper (assign_field n a b c) w = (proper-exp a w.4, proper-exp b w.5, proper-exp c w.6)
      wrote-proper (skip n) w = tt
      wrote-proper (seq n c d) w = (wrote-proper c w.3, wrote-proper d w.4)
      wrote-proper (while n t c) w = (proper-test t w.3, wrote-proper c w.4)
      wrote-proper (if n t c d) w = (proper-test t w.4, wrote-proper c w.5, wrote-proper d w.6)
      wrote-proper (par n c d) w = (wrote-proper c w.3, wrote-proper d w.4)
      wrote-proper (atom n c) w = wrote-proper c w.2

  -- ---- as many nodes as stand in it

  -- each number of the table counted once
  abbrev added : (ℕ → ℕ) → ℕ
  added f = sum (λ i. 1) f (length nodes)

  with_none : (n : ℕ) → n < length nodes → added (λ k. one k n) ≡ 1
  with_none n l = sum_one (λ i. 1) n (length nodes) l

  with-one : (n : ℕ) (f : ℕ → ℕ) {r : ℕ} → n < length nodes → added f ≡ r → added (λ k. one k n + f k) ≡ suc r
  with-one n f l p = sum-add (λ i. 1) (λ k. one k n) f (length nodes) ∙ omega (arith, with_none n l, p)

  with_two : (n : ℕ) (f g : ℕ → ℕ) {r s : ℕ} → n < length nodes → added f ≡ r → added g ≡ s → added (λ k. one k n + f k + g k) ≡ suc (r + s)
  with_two n f g l p q = sum-add (λ i. 1) (λ k. one k n + f k) g (length nodes) ∙ omega (arith, with-one n f l p, q)

  with-three : (n : ℕ) (f g h : ℕ → ℕ) {r s t : ℕ} → n < length nodes → added f ≡ r → added g ≡ s → added h ≡ t
      → added (λ k. one k n + f k + g k + h k) ≡ suc (r + (s + t))
  with-three n f g h l p q i = sum-add (λ i. 1) (λ k. one k n + f k + g k) h (length nodes) ∙ omega (arith, with_two n f g l p q, i)

  -- a node that is written stands in the table
  in_table : (n : ℕ) {x : Node} → get_elem? nodes n ≡ some x → n < length nodes
  in_table n {x} e = entry-below nodes n x e

  mutual
    unfolding count_exp size_exp

    size-exp : (e : Exp) → WroteExp nodes F N e → added (λ k. count_exp k e) ≡ size_exp e
    size-exp (no_exp n) w = absurd w
    size-exp (field n f) w = with_none n (in_table n w.0)
    size-exp (int n b) w = with_none n (in_table n w.0)
    size-exp (diff n a b) w = with_two n (λ k. count_exp k a) (λ k. count_exp k b) (in_table n w.0) (size-exp a w.3) (size-exp b w.4)
    size-exp (null n) w = with_none n (in_table n w)
    size-exp (ref n x) w = with_none n (in_table n w.0)
    size-exp (select n a b) w = with_two n (λ k. count_exp k a) (λ k. count_exp k b) (in_table n w.0) (size-exp a w.3) (size-exp b w.4)
    size-exp (proc n y c) w = with-one n (λ k. count_cmd k c) (in_table n w.0) (size-cmd c w.3)

    size-test : (t : Test) → WroteTest nodes F N t → added (λ k. count_test k t) ≡ size_test t
    size-test (no_test n) w = absurd w
    size-test (is_true n) w = with_none n (in_table n w)
    size-test (is_false n) w = with_none n (in_table n w)
    size-test (equal n a b) w = with_two n (λ k. count_exp k a) (λ k. count_exp k b) (in_table n w.0) (size-exp a w.3) (size-exp b w.4)
    size-test (less n a b) w = with_two n (λ k. count_exp k a) (λ k. count_exp k b) (in_table n w.0) (size-exp a w.3) (size-exp b w.4)

    size-cmd : (c : Cmd) → WroteCmd nodes F N c → added (λ k. count_cmd k c) ≡ size_cmd c
    size-cmd (no_cmd n) w = absurd w
    size-cmd (var n x c) w = with-one n (λ k. count_cmd k c) (in_table n w.0) (size-cmd c w.3)
    size-cmd (call n a b) w = with_two n (λ k. count_exp k a) (λ k. count_exp k b) (in_table n w.0) (size-exp a w.3) (size-exp b w.4)
    size-cmd (malloc n x) w = with_none n (in_table n w.0)
    size-cmd (assign n x e) w = with-one n (λ k. count_exp k e) (in_table n w.0) (size-exp e w.3)
    size-cmd (assign_field n a b c) w =
        with-three n (λ k. count_exp k a) (λ k. count_exp k b) (λ k. count_exp k c) (in_table n w.0) (size-exp a w.4) (size-exp b w.5) (size-exp c w.6)
    size-cmd (skip n) w = with_none n (in_table n w)
    size-cmd (seq n c d) w = with_two n (λ k. count_cmd k c) (λ k. count_cmd k d) (in_table n w.0) (size-cmd c w.3) (size-cmd d w.4)
    size-cmd (while n t c) w = with_two n (λ k. count_test k t) (λ k. count_cmd k c) (in_table n w.0) (size-test t w.3) (size-cmd c w.4)
    size-cmd (if n t c d) w =
        with-three n (λ k. count_test k t) (λ k. count_cmd k c) (λ k. count_cmd k d) (in_table n w.0) (size-test t w.4) (size-cmd c w.5) (size-cmd d w.6)
    size-cmd (par n c d) w = with_two n (λ k. count_cmd k c) (λ k. count_cmd k d) (in_table n w.0) (size-cmd c w.3) (size-cmd d w.4)
    size-cmd (atom n c) w = with-one n (λ k. count_cmd k c) (in_table n w.0) (size-cmd c w.2)

  all_ones : (m : ℕ) → total (λ i. 1) m ≡ m
  unfolding total
  all_ones zero = refl
  all_ones (suc m) = omega (arith, all_ones m)

  pub wrote-size : (c : Cmd) → WroteCmd nodes F N c → ((k : ℕ) → k < length nodes → count_cmd k c ≡ 1) → size_cmd c ≡ length nodes
  wrote-size c w once =
      sym (size-cmd c w) ∙ (sum-of-ones (λ i. 1) (λ k. count_cmd k c) (length nodes) (λ i l p. once i l) ∙ all_ones (length nodes))
