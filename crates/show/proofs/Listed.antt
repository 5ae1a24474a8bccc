-- A list that is read entry by entry is the list. Assumes nothing.
use Prim.Native.Nat.{ℕ, zero, suc}
use mathlib.Core.Path.{◌≡◌, refl, ap, ◌∙◌}
use mathlib.Core.Option.{some}
use mathlib.Core.List.{List, [], ◌∷◌, ◌++◌}
use lib.ListN.{length, get_elem?}
use Rattle.show.specs.Entries.{listed}

first : {A : Type 0} (f : ℕ → A) (n : ℕ) → listed f (suc n) ≡ f 0 ∷ listed (λ k. f (suc k)) n
unfolding listed
first f zero = refl
first {A} f (suc n) = ap (λ (l : List A). l ++ (f (suc n) ∷ [])) (first f n)

pub listed-is : {A : Type 0} (l : List A) (f : ℕ → A) → ((k : ℕ) (x : A) → get_elem? l k ≡ some x → f k ≡ x) → listed f (length l) ≡ l
unfolding listed
listed-is [] f h = refl
listed-is {A} (x ∷ l) f h =
    first f (length l)
    ∙ ap (λ (y : A). y ∷ listed (λ k. f (suc k)) (length l)) (h 0 x refl)
    ∙ ap (λ (m : List A). x ∷ m) (listed-is l (λ k. f (suc k)) (λ k y e. h (suc k) y e))
