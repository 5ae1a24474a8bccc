-- A run of bytes that pass a test: all of it passes, what follows doesn't begin so, and the loop that goes along it. Assumes nothing.
use Prim.Native.Nat.{ℕ, suc, ◌+◌, ◌<◌, ◌≤◌}
use mathlib.Core.Path.{◌≡◌, refl}
use mathlib.Core.Bool.{Bool, true, false, cond, ◌||◌}
use mathlib.Core.List.{List, [], ◌∷◌}
use native.Mathlib.Omega.{arith}
use native.Mathlib.Numerals.{add-one}
use mathlib.Core.Logic.{◌⊎◌, ⊎_elim}
use lib.Dec.{eqb}
use lib.ListN.{length, get_or, take, drop, drop_of_length-le}
use lib.Seq.{drop-cons}
use borrow.Author.Tests.{eq-eqb, ne_eqb, eqb-false}
use Rattle.grammar.specs.Classes.{class_of, is_letter, is_digit, in_word}
use Rattle.grammar.specs.Places.{every, begins}
use Rattle.letters.specs.Runs.{run}

-- ---- a run

module _ (p : ℕ → Bool) where
  pub record Ran (s : List ℕ) (n : ℕ) : Type 0 where
    pub passes : every p (take n s) ≡ true
    pub stops : begins p (drop n s) ≡ false
    pub within : n ≤ length s

  pub ran : (s : List ℕ) → Ran s (run p s)
  unfolding run every begins
  ran [] = record { passes = refl; stops = refl; within = omega arith }
  ran (b ∷ s) = go (p b) refl (ran s)
    where
      go : (t : Bool) → p b ≡ t → Ran s (run p s) → Ran (b ∷ s) (cond t (suc (run p s)) 0)
      go true e r = record { passes = rw e r.passes; stops = r.stops; within = omega (arith, r.within) }
      go false e r = record { passes = refl; stops = e; within = omega arith }

-- ---- the loop

pub record Running (p : ℕ → Bool) (s : List ℕ) (at i : ℕ) : Type 0 where
  pub within : i ≤ length s
  pub is : i + run p (drop i s) ≡ at + run p (drop at s)

module _ (p : ℕ → Bool) (s : List ℕ) (i : ℕ) where
  run_more : i < length s → p (get_or s i 0) ≡ true → run p (drop i s) ≡ suc (run p (drop (i + 1) s))
  unfolding run
  run_more h e = rw (drop-cons s i 0 h, e, add-one i)

  run-stops : i < length s → p (get_or s i 0) ≡ false → run p (drop i s) ≡ 0
  unfolding run
  run-stops h e = rw (drop-cons s i 0 h, e)

  run_ends : length s ≤ i → run p (drop i s) ≡ 0
  unfolding run
  run_ends h = rw (drop_of_length-le s h)

pub run-begun : {p : ℕ → Bool} {s : List ℕ} {at : ℕ} → at ≤ length s → Running p s at at
run-begun h = record { within = h; is = refl }

module _ {p : ℕ → Bool} {s : List ℕ} {at i : ℕ} (r : Running p s at i) where
  goes_on : i < length s → p (get_or s i 0) ≡ true → Running p s at (i + 1)
  goes_on h e = record { within = omega arith; is = omega (arith, r.is, run_more p s i h e) }

  stops-here : i < length s → p (get_or s i 0) ≡ false → i ≡ at + run p (drop at s)
  stops-here h e = omega (arith, r.is, run-stops p s i h e)

  pub run-ended : length s ≤ i → i ≡ at + run p (drop at s)
  run-ended h = omega (arith, r.is, run_ends p s i h)

-- ---- by classes: 2 to 4 are those of letters and digits

module _ (b : ℕ) {c : ℕ} (e : c ≡ class_of b) where
  outside : (c ≡ 2 → ⊥) → (c ≡ 3 → ⊥) → (c ≡ 4 → ⊥) → in_word b ≡ false
  unfolding in_word is_letter is_digit
  outside x y z = rw (← e, ne_eqb c 2 x, ne_eqb c 3 y, ne_eqb c 4 z)

  inside : 2 ≤ c → c ≤ 4 → in_word b ≡ true
  unfolding in_word is_letter is_digit
  inside l h = rw (← e) (go (eqb c 2) refl (eqb c 3) refl)
    where
      go : (t : Bool) → eqb c 2 ≡ t → (u : Bool) → eqb c 3 ≡ u → (t || u || eqb c 4) ≡ true
      go true _ u _ = refl
      go false _ true _ = refl
      go false p false q = eq-eqb c 4 (omega (arith, eqb-false c 2 p, eqb-false c 3 q))

  a-digit : c ≡ 4 → is_digit b ≡ true
  unfolding is_digit
  a-digit f = rw (← e, eq-eqb c 4 f)

  no_digit : (c ≡ 4 → ⊥) → is_digit b ≡ false
  unfolding is_digit
  no_digit f = rw (← e, ne_eqb c 4 f)

module _ {s : List ℕ} {at i c : ℕ} (r : Running in_word s at i) (h : i < length s) (e : c ≡ class_of (get_or s i 0)) where
  pub word_low : c < 2 → i ≡ at + run in_word (drop at s)
  word_low l = stops-here r h (outside (get_or s i 0) e (λ p. omega arith) (λ p. omega arith) (λ p. omega arith))

  pub word-high : 4 < c → i ≡ at + run in_word (drop at s)
  word-high l = stops-here r h (outside (get_or s i 0) e (λ p. omega arith) (λ p. omega arith) (λ p. omega arith))

  pub word_on : 2 ≤ c → c ≤ 4 → Running in_word s at (i + 1)
  word_on l m = goes_on r h (inside (get_or s i 0) e l m)

module _ {s : List ℕ} {at i c : ℕ} (r : Running in_word s at i) (h : i < length s) (e : c ≡ class_of (get_or s i 0)) where
  pub word-out : (c < 2) ⊎ ((2 ≤ c) × (4 < c)) → i ≡ at + run in_word (drop at s)
  word-out d = ⊎_elim (λ l. word_low r h e l) (λ l. word-high r h e l.1) d

module _ {s : List ℕ} {at i c : ℕ} (r : Running is_digit s at i) (h : i < length s) (e : c ≡ class_of (get_or s i 0)) where
  pub number-stops : (c ≡ 4 → ⊥) → i ≡ at + run is_digit (drop at s)
  number-stops f = stops-here r h (no_digit (get_or s i 0) e f)

  pub number-on : c ≡ 4 → Running is_digit s at (i + 1)
  number-on f = goes_on r h (a-digit (get_or s i 0) e f)
