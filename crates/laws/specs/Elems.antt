-- The entry of a list at a position, with an answer that may be missing: there is one exactly below the length, and
-- in a list made of two it is the one of the first part or of the second. Assumes nothing.
use Rattle.std.specs.Prelude.{ℕ, zero, suc, ◌-◌, ◌<◌, ◌≤◌, ◌≡◌, refl, List, [], ◌∷◌, ◌++◌, length, get_or}
use Rattle.std.proofs.Common.{ap, ◌∙◌, arith}
use Rattle.std.proofs.Math.Option.{none, some, none-ne-some, some-ne-none, some-injective}
use Rattle.std.proofs.Math.ListN.{get_elem?}

pub elem-lt : {A : Type 0} (l : List A) (i : ℕ) {a : A} → get_elem? l i ≡ some a → i < length l
elem-lt [] i e = absurd (none-ne-some _ e)
elem-lt (b ∷ l) zero e = omega arith
elem-lt (b ∷ l) (suc i) e = omega (arith, elem-lt l i e)

pub elem_past : {A : Type 0} (l : List A) (i : ℕ) → length l ≤ i → get_elem? l i ≡ none
elem_past [] i h = refl
elem_past (b ∷ l) zero h = absurd (omega arith)
elem_past (b ∷ l) (suc i) h = elem_past l i (omega arith)

pub elem-missing : {A : Type 0} (l : List A) (i : ℕ) → get_elem? l i ≡ none → length l ≤ i
elem-missing [] i e = omega arith
elem-missing (b ∷ l) zero e = absurd (some-ne-none b e)
elem-missing (b ∷ l) (suc i) e = omega (arith, elem-missing l i e)

pub elem-first : {A : Type 0} (l r : List A) (i : ℕ) → i < length l → get_elem? (l ++ r) i ≡ get_elem? l i
elem-first [] r i h = absurd (omega arith)
elem-first (b ∷ l) r zero h = refl
elem-first (b ∷ l) r (suc i) h = elem-first l r i (omega arith)

-- an entry of the first part stays
pub elem-stays : {A : Type 0} (l r : List A) (i : ℕ) (a : A) → get_elem? l i ≡ some a → get_elem? (l ++ r) i ≡ some a
elem-stays l r i a e = elem-first l r i (elem-lt l i e) ∙ e

pub elem-second : {A : Type 0} (l r : List A) (i : ℕ) → length l ≤ i → get_elem? (l ++ r) i ≡ get_elem? r (i - length l)
elem-second [] r i h = ap (λ (k : ℕ). get_elem? r k) (omega arith)
elem-second (b ∷ l) r zero h = absurd (omega arith)
elem-second (b ∷ l) r (suc i) h = elem-second l r i (omega arith) ∙ ap (λ (k : ℕ). get_elem? r k) (omega arith)

-- read with a default, it is the same entry
pub elem_is : {A : Type 0} (l : List A) (i : ℕ) (a d : A) → get_elem? l i ≡ some a → get_or l i d ≡ a
elem_is [] i a d e = absurd (none-ne-some a e)
elem_is (b ∷ l) zero a d e = some-injective b a e
elem_is (b ∷ l) (suc i) a d e = elem_is l i a d e
