-- Two places of one list: one stands before the other, or they are the same place. Assumes nothing.
use mathlib.Core.Path.{◌≡◌, refl}
use mathlib.Core.List.{List, [], ◌∷◌, ◌++◌}

module _ {A : Type 0} where
  pub data Apart (xs : List A) (x : A) (ys : List A) (y : A) : Type 0 where
    earlier : (zs : List A) → ys ≡ xs ++ (x ∷ zs) → Apart xs x ys y
    same : xs ≡ ys → x ≡ y → Apart xs x ys y
    later : (zs : List A) → xs ≡ ys ++ (y ∷ zs) → Apart xs x ys y

  pub apart : (xs ys : List A) (x y : A) (us vs : List A) → xs ++ (x ∷ us) ≡ ys ++ (y ∷ vs) → Apart xs x ys y
  apart [] [] u v us vs e = same refl (cc)
  apart [] (y ∷ ys) u v us vs e = earlier ys (cc)
  apart (x ∷ xs) [] u v us vs e = later xs (cc)
  apart (x ∷ xs) (y ∷ ys) u v us vs e =
      let i : x ≡ y = cc in
      let j : xs ++ (u ∷ us) ≡ ys ++ (v ∷ vs) = cc in
      go i (apart xs ys u v us vs j)
    where
      go : x ≡ y → Apart xs u ys v → Apart (x ∷ xs) u (y ∷ ys) v
      go i (earlier zs f) = earlier zs (cc)
      go i (same f g) = same (cc) g
      go i (later zs f) = later zs (cc)
