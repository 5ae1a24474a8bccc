-- Words put on the stack one by one. Assumes nothing.
use Prim.Native.Nat.{ℕ, zero, suc, ◌+◌, ◌<◌, ◌≤◌}
use mathlib.Core.Path.{◌≡◌, refl, sym, ap, ◌∙◌}
use mathlib.Core.List.{List, [], ◌∷◌}
use native.Mathlib.Omega.{arith}
use native.Mathlib.Numerals.{add-one}
use lib.ListN.{length, get_or, take, drop, set, length-set}
use Rattle.dues.specs.Stack.{stack_of, Piled}

pub none-piled : (n : ℕ) (ws : List ℕ) → Piled [] n n ws ws
none-piled n ws = record { stack = refl; count = omega arith; same_length = refl; past = refl }

-- a word that is stored above leaves what is below
get-below : (ws : List ℕ) (i n w : ℕ) → i < n → get_or (set ws n w) i 0 ≡ get_or ws i 0
get-below [] i n w h = refl
get-below (x ∷ ws) zero zero w h = absurd (omega arith)
get-below (x ∷ ws) zero (suc n) w h = refl
get-below (x ∷ ws) (suc i) zero w h = absurd (omega arith)
get-below (x ∷ ws) (suc i) (suc n) w h = get-below ws i n w (omega arith)

stack-below : (m n w : ℕ) (ws : List ℕ) → m ≤ n → stack_of m (set ws n w) ≡ stack_of m ws
unfolding stack_of
stack-below zero n w ws h = refl
stack-below (suc m) n w ws h = rw (get-below ws m n w (omega arith), stack-below m n w ws (omega arith))

get-there : (ws : List ℕ) (n w : ℕ) → n < length ws → get_or (set ws n w) n 0 ≡ w
get-there [] n w h = absurd (omega arith)
get-there (x ∷ ws) zero w h = refl
get-there (x ∷ ws) (suc n) w h = get-there ws n w (omega arith)

past-set : (ws : List ℕ) (n w : ℕ) → drop (suc n) (set ws n w) ≡ drop (suc n) ws
past-set [] n w = refl
past-set (x ∷ ws) zero w = refl
past-set (x ∷ ws) (suc n) w = past-set ws n w

-- what agrees from a place on agrees from the next place on
further : (vs ws : List ℕ) (n : ℕ) → drop n vs ≡ drop n ws → drop (suc n) vs ≡ drop (suc n) ws
further vs ws n e = sym (one vs n) ∙ ap (λ (l : List ℕ). drop 1 l) e ∙ one ws n
  where
    one : (l : List ℕ) (n : ℕ) → drop 1 (drop n l) ≡ drop (suc n) l
    one [] zero = refl
    one [] (suc n) = refl
    one (x ∷ l) zero = refl
    one (x ∷ l) (suc n) = one l n

pub piled-more : (vs : List ℕ) (n m w : ℕ) (entry exit : List ℕ) → Piled vs n m entry exit → m < length exit → Piled (w ∷ vs) n (m + 1) entry (set exit m w)
unfolding stack_of
piled-more vs n m w entry exit p h =
    rw (add-one m)
    (record {
      stack = rw (get-there exit m w h, stack-below m m w exit (omega arith)) (ap (λ (l : List ℕ). w ∷ l) p.stack);
      count = omega (arith, p.count);
      same_length = length-set exit m w ∙ p.same_length;
      past = past-set exit m w ∙ further exit entry m p.past;
    })

-- four of four, however many are asked for
pub all-four : (n a b c d : ℕ) → 4 ≤ n → take n (a ∷ b ∷ c ∷ d ∷ []) ≡ a ∷ b ∷ c ∷ d ∷ []
all-four zero a b c d h = absurd (omega arith)
all-four (suc zero) a b c d h = absurd (omega arith)
all-four (suc (suc zero)) a b c d h = absurd (omega arith)
all-four (suc (suc (suc zero))) a b c d h = absurd (omega arith)
all-four (suc (suc (suc (suc n)))) a b c d h = ap (λ (l : List ℕ). a ∷ b ∷ c ∷ d ∷ l) (none n)
  where
    none : (n : ℕ) → take {A = ℕ} n [] ≡ []
    none zero = refl
    none (suc n) = refl
