-- The list of a function's first answers: `up_to f n` is f 0, f 1, .. f (n − 1). A table that is read by number becomes
-- a list so, and its laws say that nothing is lost on the way: as long, the same at each place, in two pieces, and
-- two lists that agree at each place are one. Assumes nothing.
use Prim.Native.Nat.{ℕ, zero, suc, ◌+◌, ◌<◌}
use Rattle.std.proofs.Math.Path.{◌≡◌, refl, ap}
use Rattle.std.proofs.Common.{◌∙◌, zero-add, suc-add}
use Rattle.std.proofs.Math.Option.{some}
use mathlib.Core.List.{List, [], ◌∷◌, ◌++◌}
use native.Mathlib.Omega.{arith}
use Rattle.std.specs.Prelude.{length, get_or}
use Rattle.std.proofs.Math.ListN.{get_elem?}

unfoldable pub up_to : {A : Type 0} → (ℕ → A) → ℕ → List A
up_to f zero = []
up_to f (suc n) = f zero ∷ up_to (λ k. f (suc k)) n

module _ {A : Type 0} where
  pub length-up_to : (f : ℕ → A) (n : ℕ) → length (up_to f n) ≡ n
  unfolding up_to
  length-up_to f zero = refl
  length-up_to f (suc n) = ap suc (length-up_to (λ k. f (suc k)) n)

  pub up_to-at : (f : ℕ → A) (n k : ℕ) → k < n → get_elem? (up_to f n) k ≡ some (f k)
  unfolding up_to
  up_to-at f zero k h = absurd (omega arith)
  up_to-at f (suc n) zero h = refl
  up_to-at f (suc n) (suc k) h = up_to-at (λ j. f (suc j)) n k (omega arith)

  -- what is in the list is an answer
  pub up_to-of : (f : ℕ → A) (n k : ℕ) (x : A) → get_elem? (up_to f n) k ≡ some x → (k < n) × (f k ≡ x)
  unfolding up_to
  up_to-of f zero k x e = let z : ◌≡◌ {A = ℕ} 0 1 = cc in absurd (omega arith)
  up_to-of f (suc n) zero x e = (omega arith, cc)
  up_to-of f (suc n) (suc k) x e = let r = up_to-of (λ j. f (suc j)) n k x e in (omega (arith, r.0), r.1)

  pub up_to-same : (f g : ℕ → A) (n : ℕ) → ((k : ℕ) → k < n → f k ≡ g k) → up_to f n ≡ up_to g n
  unfolding up_to
  up_to-same f g zero h = refl
  up_to-same f g (suc n) h =
      let e = h zero (omega arith) in
      let es = up_to-same (λ k. f (suc k)) (λ k. g (suc k)) n (λ k l. h (suc k) (omega arith)) in
      rw (e, es)

  pub up_to-add : (f : ℕ → A) (m n : ℕ) → up_to f (m + n) ≡ up_to f m ++ up_to (λ k. f (m + k)) n
  unfolding up_to
  up_to-add f zero n = rw (zero-add n) (up_to-same f (λ k. f (zero + k)) n (λ k h. rw (zero-add k)))
  up_to-add f (suc m) n =
      rw (suc-add m n)
      (ap (λ (l : List A). f zero ∷ l)
      (up_to-add (λ k. f (suc k)) m n ∙
      ap
      (λ (l : List A). up_to (λ k. f (suc k)) m ++ l)
      (up_to-same (λ k. f (suc (m + k))) (λ k. f (suc m + k)) n (λ k h. rw (suc-add m k)))))

-- ---- lists by their elements

module _ {A : Type 0} where
  -- an element is there, whatever follows
  pub elem-append : (xs ys : List A) (d : A) (i : ℕ) (x : A) → get_elem? xs i ≡ some x → get_or (xs ++ ys) i d ≡ x
  elem-append [] ys d i x e = let z : ◌≡◌ {A = ℕ} 0 1 = cc in absurd (omega arith)
  elem-append (y ∷ xs) ys d zero x e = cc
  elem-append (y ∷ xs) ys d (suc i) x e = elem-append xs ys d i x e

  -- two lists as long, with the same elements, are one
  pub same-elems : (xs ys : List A) → length xs ≡ length ys
      → ((i : ℕ) (x y : A) → get_elem? xs i ≡ some x → get_elem? ys i ≡ some y → x ≡ y)
      → xs ≡ ys
  same-elems [] [] l h = refl
  same-elems [] (y ∷ ys) l h = absurd (omega arith)
  same-elems (x ∷ xs) [] l h = absurd (omega arith)
  same-elems (x ∷ xs) (y ∷ ys) l h =
      let e = h zero x y refl refl in
      let es = same-elems xs ys (omega arith) (λ i. h (suc i)) in
      rw (e, es)
