-- The words that are made up, A0, A1, .. and a0, a1, .., are names and field names, and no two of them are the same. Assumes nothing.
use Prim.Native.Nat.{ℕ, zero, suc}
use mathlib.Core.Path.{◌≡◌, refl, subst}
use mathlib.Core.Bool.{Bool, true, false, false≢true, ◌||◌}
use mathlib.Core.Option.{none}
use mathlib.Core.List.{List, [], ◌∷◌}
use native.Mathlib.Omega.{arith}
use lib.Dec.{eqb}
use borrow.Author.Tests.{ne_eqb}
use Rattle.laws.specs.Bools.{and_both}
use Rattle.laws.specs.UpTo.{up_to}
use Rattle.grammar.specs.Classes.{blanks, symbols, among, class_of, is_letter, is_digit, in_word}
use Rattle.grammar.specs.Tokens.{reserved, same_word, spelled}
use Rattle.grammar.specs.Places.{every}
use Rattle.grammar.specs.FieldList.{FieldName, next, position_of, Different}
use Rattle.writing.specs.Spell.{decimal_of, VariableName, Each, made_up, made_up_field}
use Rattle.writing.proofs.Decimals.{one_number, decimal-digits}
use Rattle.writing.proofs.Words.{other_word}

-- ---- lists by number

pub each-up_to : (P : List ℕ → Type 0) (word : ℕ → List ℕ) (n : ℕ) → ((k : ℕ) → P (word k)) → Each P (up_to word n)
unfolding up_to
each-up_to P word zero h = tt
each-up_to P word (suc n) h = (h zero, each-up_to P (λ k. word (suc k)) n (λ k. h (suc k)))

absent : (w : List ℕ) (word : ℕ → List ℕ) (n : ℕ) → ((k : ℕ) → w ≡ word k → ⊥) → position_of w (up_to word n) ≡ none
unfolding up_to position_of next
absent w word zero h = refl
absent w word (suc n) h = rw (other_word w (word zero) (h zero), absent w (λ k. word (suc k)) n (λ k. h (suc k))) refl

pub different-up_to : (word : ℕ → List ℕ) (n : ℕ) → ((j k : ℕ) → word j ≡ word k → j ≡ k) → Different (up_to word n)
unfolding up_to
different-up_to word zero h = tt
different-up_to word (suc n) h = (
  absent (word zero) (λ k. word (suc k)) n (λ k e. let i = h zero (suc k) e in omega arith),
  different-up_to (λ k. word (suc k)) n (λ j k e. let i = h (suc j) (suc k) e in omega arith),
)

-- ---- digits in a word

digit-in-word : (b : ℕ) → is_digit b ≡ true → in_word b ≡ true
unfolding in_word
digit-in-word b e = go (is_letter b) e
  where
    go : (t : Bool) → is_digit b ≡ true → (t || is_digit b) ≡ true
    go true i = refl
    go false i = i

digits-in-word : (ds : List ℕ) → every is_digit ds ≡ true → every in_word ds ≡ true
unfolding every
digits-in-word [] h = refl
digits-in-word (d ∷ ds) h =
    let k = and_both (is_digit d) (every is_digit ds) h in
    rw (digit-in-word d k.0) (digits-in-word ds k.1)

decimal-in-word : (n : ℕ) → every in_word (decimal_of n) ≡ true
unfolding every
decimal-in-word n =
    let v = decimal-digits n in
    let e = v.is in
    rw (e, digit-in-word v.first v.digit) (digits-in-word v.rest v.digits)

-- ---- names

pub made-up : (n : ℕ) → VariableName (made_up n)
unfolding made_up class_of among blanks symbols
made-up n = record { first = 65; rest = decimal_of n; is = refl; up = refl; follow = decimal-in-word n }

pub made-up-one : (j k : ℕ) → made_up j ≡ made_up k → j ≡ k
unfolding made_up
made-up-one j k e = one_number j k (cc)

-- ---- fields: no reserved word has a digit behind its first letter

not_t : (b : ℕ) → is_digit b ≡ true → eqb b 116 ≡ false
unfolding is_digit class_of among blanks symbols
not_t b e = ne_eqb b 116 (λ i. false≢true (subst (λ x. is_digit x ≡ true) i e))

not-reserved : (d : ℕ) (ds : List ℕ) → is_digit d ≡ true → spelled (97 ∷ d ∷ ds) reserved ≡ none
unfolding spelled reserved same_word
not-reserved d ds e = rw (not_t d e) refl

pub made-up-field : (n : ℕ) → FieldName (made_up_field n)
unfolding made_up_field class_of among blanks symbols
made-up-field n =
    let v = decimal-digits n in
    let e = v.is in
    record { first = 97; rest = decimal_of n; is = refl; low = refl; follow = decimal-in-word n; free = rw e (not-reserved v.first v.rest v.digit) }

pub made-up-field-one : (j k : ℕ) → made_up_field j ≡ made_up_field k → j ≡ k
unfolding made_up_field
made-up-field-one j k e = one_number j k (cc)

-- ---- n of them

pub variables-made-up : (n : ℕ) → Each VariableName (up_to made_up n) × Different (up_to made_up n)
variables-made-up n = (each-up_to VariableName made_up n made-up, different-up_to made_up n made-up-one)

pub fields-made-up : (n : ℕ) → Each FieldName (up_to made_up_field n) × Different (up_to made_up_field n)
fields-made-up n = (each-up_to FieldName made_up_field n made-up-field, different-up_to made_up_field n made-up-field-one)
