-- The digits that `io::decimal` writes are those of the definition: a number has one count of digits that is the fewest.
-- Assumes nothing.
use Prim.Native.Nat.{ℕ, zero, suc, ◌+◌, ◌*◌, ◌-◌, ◌/◌, ◌^◌, ◌<◌, ◌≤◌}
use mathlib.Core.Path.{◌≡◌, refl, ap, ◌∙◌}
use mathlib.Core.List.{List}
use native.Mathlib.Nat.{pow-suc}
use native.Mathlib.Decide.{dec_lt}
use native.Mathlib.Omega.{arith}
use lib.ListN.{length}
use lib.Pow.{pow-add}
use borrow.Author.Tests.{lt-ltb, le-ltb}
use Rattle.io.specs.Digits.{last_digits, IsDigitCount}
use Rattle.text.specs.Text.{digit_count_by, digit_count, decimal}
use Rattle.text.specs.declared.Page.{Page}
use Rattle.text.specs.Written.{Adds}
use Rattle.text.proofs.WroteLaws.{adds_as}

one : (k : ℕ) → 1 ≤ 10 ^ k
one zero = omega arith
one (suc k) = rw (pow-suc 10 k) (omega (arith, one k))

counted : (f n k : ℕ) → n ≤ f → IsDigitCount 10 1 n k → k ≡ digit_count_by f n
unfolding digit_count_by
counted f n zero h w = absurd (omega (arith, w.0))
counted zero n (suc zero) h w = refl
counted (suc f) n (suc zero) h w = rw (lt-ltb n 10 w.1, digit_count_by)
counted zero n (suc (suc j)) h w =
    let e : 10 ^ suc j ≡ 10 ^ j * 10 = pow-suc 10 j in
    let o : 1 ≤ 10 ^ j = one j in
    let d : suc (suc j) - 1 ≡ suc j = omega arith in
    let l : 10 ^ suc j ≤ n = rw d at (w.2 (omega arith)) in
    absurd (omega arith)
counted (suc f) n (suc (suc j)) h w =
    let e : 10 ^ suc j ≡ 10 ^ j * 10 = pow-suc 10 j in
    let e2 : 10 ^ suc (suc j) ≡ 10 ^ suc j * 10 = pow-suc 10 (suc j) in
    let o : 1 ≤ 10 ^ j = one j in
    let d : suc (suc j) - 1 ≡ suc j = omega arith in
    let l : 10 ^ suc j ≤ n = rw d at (w.2 (omega arith)) in
    let u : n < 10 ^ suc (suc j) = w.1 in
    let v : suc j - 1 ≡ j = omega arith in
    let k : 10 ^ (suc j - 1) ≤ n / 10 = rw v (omega arith) in
    rw (le-ltb n 10 (omega arith), digit_count_by) (ap suc (counted f (n / 10) (suc j) (omega arith) (omega arith, omega arith, λ _. k)))

-- what `io::decimal` answers and writes
pub decimal-is : (n k : ℕ) (xs : List ℕ) → IsDigitCount 10 1 n k → xs ≡ last_digits 10 k n → xs ≡ decimal n
unfolding decimal digit_count
decimal-is n k xs w e = e ∙ ap (λ (j : ℕ). last_digits 10 j n) (counted n n k (omega arith) w)

-- a number of 64 bits has at most 20 digits
long : (n k : ℕ) → 20 < k → IsDigitCount 10 1 n k → n < 2 ^ 64 → ⊥
long n k l w h =
    let e : k - 1 ≡ 20 + (k - 21) = omega arith in
    let p : 10 ^ (20 + (k - 21)) ≤ n = rw e at (w.2 (omega arith)) in
    let q : 10 ^ 20 * 10 ^ (k - 21) ≤ n = rw (pow-add 10 20 (k - 21)) at p in
    omega (arith, one (k - 21))

few-digits : (n k : ℕ) → IsDigitCount 10 1 n k → n < 2 ^ 64 → k ≤ 20
few-digits n k w h = elim (dec_lt 20 k) [
  | yes l ↦ absurd (long n k l w h)
  | no f ↦ omega arith
]

pub decimal-adds : (n k : ℕ) (xs : List ℕ) (p q : Page) → IsDigitCount 10 1 n k → n < 2 ^ 64 → k ≡ length xs → xs ≡ last_digits 10 k n
    → Adds (length xs) p xs q → Adds 20 p (decimal n) q
decimal-adds n k xs p q w h l e a =
    adds_as (length xs) 20 p q xs (decimal n) a (decimal-is n k xs w e) (omega (arith, few-digits n k w h))
