-- A number's digits are digits, and they say the number. So numbers with the same digits are one. Assumes nothing.
use Prim.Native.Nat.{ℕ, zero, suc, ◌+◌, ◌*◌, ◌-◌, ◌/◌, ◌%◌, ◌≤◌, ◌<◌}
use mathlib.Core.Path.{◌≡◌, refl, sym, ap, ◌∙◌}
use mathlib.Core.Bool.{Bool, true, false}
use mathlib.Core.List.{List, [], ◌∷◌}
use native.Mathlib.Omega.{arith}
use lib.Dec.{ltb}
use borrow.Author.Tests.{ltb-true, ltb-false}
use Rattle.grammar.specs.Classes.{blanks, symbols, among, class_of, is_digit}
use Rattle.grammar.specs.Places.{decimal_from, decimal, every}
use Rattle.writing.specs.Spell.{last_digit, decimal_before, decimal_of}

-- the bytes of the ten digits
pub digit-byte : (d : ℕ) → d < 10 → is_digit (48 + d) ≡ true
unfolding is_digit class_of among blanks symbols
digit-byte zero h = refl
digit-byte (suc zero) h = refl
digit-byte (suc (suc zero)) h = refl
digit-byte (suc (suc (suc zero))) h = refl
digit-byte (suc (suc (suc (suc zero)))) h = refl
digit-byte (suc (suc (suc (suc (suc zero))))) h = refl
digit-byte (suc (suc (suc (suc (suc (suc zero)))))) h = refl
digit-byte (suc (suc (suc (suc (suc (suc (suc zero))))))) h = refl
digit-byte (suc (suc (suc (suc (suc (suc (suc (suc zero)))))))) h = refl
digit-byte (suc (suc (suc (suc (suc (suc (suc (suc (suc zero))))))))) h = refl
digit-byte (suc (suc (suc (suc (suc (suc (suc (suc (suc (suc d)))))))))) h = absurd (omega arith)

-- ---- what they say

says-one : (n : ℕ) (s : List ℕ) → decimal_from 0 ((48 + n) ∷ s) ≡ decimal_from n s
unfolding decimal_from
says-one n s = ap (λ m. decimal_from m s) (let e : 10 * 0 + (48 + n - 48) ≡ n = omega arith in e)

says_last : (n : ℕ) (s : List ℕ) → decimal_from (n / 10) ((48 + n % 10) ∷ s) ≡ decimal_from n s
unfolding decimal_from
says_last n s = ap (λ m. decimal_from m s) (let e : 10 * (n / 10) + (48 + n % 10 - 48) ≡ n = omega arith in e)

says : (k n : ℕ) (s : List ℕ) → n ≤ k → decimal_from 0 (decimal_before k n s) ≡ decimal_from n s
unfolding decimal_before last_digit
says zero n s h = says-one n s
says (suc k) n s h = go (ltb n 10) refl (says k (n / 10) ((48 + n % 10) ∷ s))
  where
    go : (t : Bool) → ltb n 10 ≡ t → (n / 10 ≤ k → decimal_from 0 (decimal_before k (n / 10) ((48 + n % 10) ∷ s)) ≡ decimal_from (n / 10) ((48 + n % 10) ∷ s))
        → decimal_from 0 (last_digit t n s (decimal_before k)) ≡ decimal_from n s
    go true e f = says-one n s
    go false e f = let l = ltb-false n 10 e in f (omega arith) ∙ says_last n s

pub says-number : (n : ℕ) → decimal (decimal_of n) ≡ n
unfolding decimal decimal_of decimal_from
says-number n = says n n [] (omega arith)

pub one_number : (m n : ℕ) → decimal_of m ≡ decimal_of n → m ≡ n
one_number m n e = sym (says-number m) ∙ (ap decimal e ∙ says-number n)

-- ---- they are digits, and there is one

pub record Digits (ds : List ℕ) : Type 0 where
  pub first : ℕ
  pub rest : List ℕ
  pub is : ds ≡ first ∷ rest
  pub digit : is_digit first ≡ true
  pub digits : every is_digit rest ≡ true

digit-first : (n : ℕ) (s : List ℕ) → n < 10 → every is_digit s ≡ true → Digits ((48 + n) ∷ s)
digit-first n s l h = record { first = 48 + n; rest = s; is = refl; digit = digit-byte n l; digits = h }

digit-more : (n : ℕ) (s : List ℕ) → n < 10 → every is_digit s ≡ true → every is_digit ((48 + n) ∷ s) ≡ true
unfolding every
digit-more n s l h = rw (digit-byte n l) h

before-digits : (k n : ℕ) (s : List ℕ) → n ≤ k → every is_digit s ≡ true → Digits (decimal_before k n s)
unfolding decimal_before last_digit
before-digits zero n s l h = digit-first n s (omega arith) h
before-digits (suc k) n s l h = go (ltb n 10) refl (before-digits k (n / 10) ((48 + n % 10) ∷ s))
  where
    go : (t : Bool) → ltb n 10 ≡ t → (n / 10 ≤ k → every is_digit ((48 + n % 10) ∷ s) ≡ true → Digits (decimal_before k (n / 10) ((48 + n % 10) ∷ s)))
        → Digits (last_digit t n s (decimal_before k))
    go true e f = digit-first n s (ltb-true n 10 e) h
    go false e f = let m = ltb-false n 10 e in f (omega arith) (digit-more (n % 10) s (omega arith) h)

pub decimal-digits : (n : ℕ) → Digits (decimal_of n)
unfolding decimal_of every
decimal-digits n = before-digits n n [] (omega arith) refl
