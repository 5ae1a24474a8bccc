-- The kind of a tag by its ranges: one law for each range and for each gap between them. Assumes nothing.
use Prim.Native.Nat.{ℕ, ◌<◌, ◌≤◌}
use mathlib.Core.Path.{◌≡◌}
use mathlib.Core.Option.{none, some}
use native.Mathlib.Omega.{arith}
use borrow.Author.Tests.{le-leb, lt-leb}
use Rattle.rules.specs.declared.Kind.TheVariants.{Exp as an_exp, Test as a_test, Cmd as a_cmd}
use Rattle.rules.specs.Image.{kind_of}

module _ (x : ℕ) where
  pub below_all : x < 1 → none ≡ kind_of x
  unfolding kind_of
  below_all h = simp (lt-leb 1 x h, lt-leb 16 x (omega arith), lt-leb 32 x (omega arith))

  pub is-exp : 1 ≤ x → x < 8 → some an_exp ≡ kind_of x
  unfolding kind_of
  is-exp l h = simp (le-leb 1 x l, le-leb x 7 (omega arith))

  pub between : 8 ≤ x → x < 16 → none ≡ kind_of x
  unfolding kind_of
  between l h = simp (le-leb 1 x (omega arith), lt-leb x 7 l, lt-leb 16 x h, lt-leb 32 x (omega arith))

  pub is-test : 16 ≤ x → x < 20 → some a_test ≡ kind_of x
  unfolding kind_of
  is-test l h =
      simp (le-leb 1 x (omega arith), lt-leb x 7 (omega arith), le-leb 16 x l, le-leb x 19 (omega arith))

  pub between-2 : 20 ≤ x → x < 32 → none ≡ kind_of x
  unfolding kind_of
  between-2 l h =
      simp
      (le-leb 1 x (omega arith), lt-leb x 7 (omega arith), le-leb 16 x (omega arith), lt-leb x 19 l, lt-leb 32 x h)

  pub is-cmd : 32 ≤ x → x < 43 → some a_cmd ≡ kind_of x
  unfolding kind_of
  is-cmd l h =
      simp
      (le-leb 1 x (omega arith), lt-leb x 7 (omega arith), le-leb 16 x (omega arith), lt-leb x 19 (omega arith), le-leb 32 x l, le-leb x 42 (omega arith))

  pub above-all : 43 ≤ x → none ≡ kind_of x
  unfolding kind_of
  above-all l =
      simp
      (le-leb 1 x (omega arith), lt-leb x 7 (omega arith), le-leb 16 x (omega arith), lt-leb x 19 (omega arith), le-leb 32 x (omega arith), lt-leb x 42 l)
