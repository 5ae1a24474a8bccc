-- A number's digits: those of its tenth part, and its last one. Assumes nothing.
use Prim.Native.Nat.{ℕ, zero, suc, ◌+◌, ◌/◌, ◌%◌, ◌≤◌, ◌<◌}
use mathlib.Core.Path.{◌≡◌, refl, sym, ap, ◌∙◌}
use mathlib.Core.Bool.{Bool, true, false}
use mathlib.Core.List.{List, [], ◌∷◌, ◌++◌}
use native.Mathlib.Omega.{arith}
use lib.Dec.{ltb}
use borrow.Author.Tests.{lt-ltb, le-ltb, ltb-false}
use Rattle.writing.specs.Spell.{last_digit, decimal_before, decimal_of}
use Rattle.pen.specs.Draws.{Puts}
use Rattle.pen.specs.declared.Pen.{Pen}
use Rattle.pen.proofs.DrawLaws.{puts-as, puts_then}

-- the bound of the recursion is no part of the answer
same-bound : (k m n : ℕ) (s : List ℕ) → n ≤ k → n ≤ m → decimal_before k n s ≡ decimal_before m n s
unfolding decimal_before last_digit
same-bound zero zero n s h l = refl
same-bound zero (suc m) n s h l = rw (lt-ltb n 10 (omega arith)) refl
same-bound (suc k) zero n s h l = rw (lt-ltb n 10 (omega arith)) refl
same-bound (suc k) (suc m) n s h l = go (ltb n 10) refl (same-bound k m (n / 10) ((48 + n % 10) ∷ s))
  where
    go : (t : Bool) → ltb n 10 ≡ t → (n / 10 ≤ k → n / 10 ≤ m → decimal_before k (n / 10) ((48 + n % 10) ∷ s) ≡ decimal_before m (n / 10) ((48 + n % 10) ∷ s))
        → last_digit t n s (decimal_before k) ≡ last_digit t n s (decimal_before m)
    go true e f = refl
    go false e f = let q = ltb-false n 10 e in f (omega arith) (omega arith)

-- what stands behind is no part of it
before-append : (k n : ℕ) (xs s : List ℕ) → decimal_before k n (xs ++ s) ≡ decimal_before k n xs ++ s
unfolding decimal_before last_digit
before-append zero n xs s = refl
before-append (suc k) n xs s = go (ltb n 10) (before-append k (n / 10) ((48 + n % 10) ∷ xs) s)
  where
    go : (t : Bool) → decimal_before k (n / 10) ((48 + n % 10) ∷ (xs ++ s)) ≡ decimal_before k (n / 10) ((48 + n % 10) ∷ xs) ++ s
        → last_digit t n (xs ++ s) (decimal_before k) ≡ last_digit t n xs (decimal_before k) ++ s
    go true f = refl
    go false f = f

decimal-one : (n : ℕ) → n < 10 → (48 + n) ∷ [] ≡ decimal_of n
unfolding decimal_of decimal_before last_digit
decimal-one zero h = refl
decimal-one (suc k) h = rw (lt-ltb (suc k) 10 h) refl

decimal-more : (n : ℕ) → 10 ≤ n → decimal_of (n / 10) ++ ((48 + n % 10) ∷ []) ≡ decimal_of n
unfolding decimal_of decimal_before last_digit
decimal-more zero h = absurd (omega arith)
decimal-more (suc k) h =
    let d = (48 + suc k % 10) ∷ [] in
    rw (le-ltb (suc k) 10 h)
    (sym (before-append (suc k / 10) (suc k / 10) [] d) ∙ same-bound (suc k / 10) k (suc k / 10) d (omega arith) (omega arith))

pub digits_one : {n b : ℕ} {p r : Pen} → Puts (b ∷ []) p r → b ≡ 48 + n → n < 10 → Puts (decimal_of n) p r
digits_one {n} v i h = puts-as v (ap (λ x. x ∷ []) i ∙ decimal-one n h)

pub digits_more : {n b : ℕ} {p q r : Pen} → Puts (decimal_of (n / 10)) p q → Puts (b ∷ []) q r → b ≡ 48 + n % 10 → 10 ≤ n → Puts (decimal_of n) p r
digits_more {n} v w i h = puts_then v w (ap (λ x. decimal_of (n / 10) ++ (x ∷ [])) i ∙ decimal-more n h)
