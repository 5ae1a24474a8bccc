-- A number summed digit by digit under a ceiling is the least of its value and the ceiling. Assumes nothing.
use Prim.Native.Nat.{ℕ, suc, ◌+◌, ◌*◌, ◌-◌, ◌<◌, ◌≤◌, min}
use mathlib.Core.Path.{◌≡◌, sym, ◌∙◌}
use mathlib.Core.List.{List, [], ◌∷◌}
use native.Mathlib.Omega.{arith}
use native.Mathlib.Nat.{min-eq_left, min-eq_right, min-le_right}
use native.Mathlib.Numerals.{add-one}
use native.Mathlib.Nat.{add-zero}
use native.Mathlib.Decide.{dec_lt}
use lib.ListN.{length, get_or, take, drop, length-drop}
use lib.Seq.{slice, slice_empty, slice-cons, length-take-le, get_or-take, get_or-drop}
use Rattle.grammar.specs.Places.{decimal_from, decimal}

abbrev ceiling : ℕ
ceiling = 8589934592

grows : (n : ℕ) (w : List ℕ) → n ≤ decimal_from n w
unfolding decimal_from
grows n [] = omega arith
grows n (d ∷ w) = omega (arith, grows (10 * n + (d - 48)) w)

capped : (n : ℕ) (w : List ℕ) → min (decimal_from (min n ceiling) w) ceiling ≡ min (decimal_from n w) ceiling
capped n w = go (dec_lt n ceiling)
  where
    go : Dec (n < ceiling) → min (decimal_from (min n ceiling) w) ceiling ≡ min (decimal_from n w) ceiling
    go (yes h) = let l : n ≤ ceiling = omega arith in rw (min-eq_left l)
    go (no h) =
        let l : ceiling ≤ n = omega arith in
        let a : ceiling ≤ decimal_from ceiling w = grows ceiling w in
        let b : ceiling ≤ decimal_from n w = omega (arith, grows n w) in
        rw (min-eq_right l) (min-eq_right a ∙ sym (min-eq_right b))

-- ---- the loop

pub record Summing (s : List ℕ) (from to i n : ℕ) : Type 0 where
  pub not-above : i ≤ to
  pub small : n ≤ 8589934592
  pub is : min (decimal_from n (slice i to s)) 8589934592 ≡ min (decimal (slice from to s)) 8589934592

pub sums_none : (s : List ℕ) (from to : ℕ) → from ≤ to → Summing s from to (from + 0) 0
unfolding decimal
sums_none s from to h = record { not-above = omega arith; small = omega arith; is = rw (add-zero from) }

module _ {s : List ℕ} {from to i n : ℕ} (p : Summing s from to i n) where
  pub sums_on : {m : ℕ} → i < to → to ≤ length s → m ≡ min (10 * n + (get_or s i 0 - 48)) 8589934592 → Summing s from to (i + 1) m
  unfolding decimal_from
  sums_on {m} h l e =
      let more = slice-cons i to s 0 h l in
      record {
        not-above = omega arith;
        small = rw e (min-le_right (10 * n + (get_or s i 0 - 48)) ceiling);
        is = rw (e, add-one i) (capped (10 * n + (get_or s i 0 - 48)) (slice (suc i) to s) ∙ rw more at p.is);
      }

  pub sums-all : to ≤ i → (n ≡ min (decimal (slice from to s)) 8589934592) × (n ≤ 8589934592)
  unfolding decimal_from
  sums-all h =
      let e : i ≡ to = omega (arith, p.not-above) in
      let none : slice i to s ≡ [] = rw e (slice_empty to s) in
      (sym (min-eq_left p.small) ∙ rw none at p.is, p.small)

-- one byte more of the part
pub sums-next : {s : List ℕ} {from to j n m : ℕ} → Summing s from to (from + j) n → j < length (take (to - from) (drop from s)) → from ≤ to → to ≤ length s
    → m ≡ min (10 * n + (get_or (take (to - from) (drop from s)) j 0 - 48)) 8589934592 → Summing s from to (from + (j + 1)) m
sums-next {s} {from} {to} {j} p h k l e =
    let below : j < to - from = omega (arith, h, length-take-le (to - from) (drop from s) (omega (arith, length-drop from s))) in
    let there : get_or (take (to - from) (drop from s)) j 0 ≡ get_or s (from + j) 0 = get_or-take (to - from) (drop from s) j 0 below ∙ get_or-drop from s j 0 in
    let next : from + (j + 1) ≡ from + j + 1 = omega arith in
    rw next (sums_on p (omega arith) l (rw there at e))

pub sums-over : {s : List ℕ} {from to j n : ℕ} → Summing s from to (from + j) n → length (take (to - from) (drop from s)) ≤ j → from ≤ to → to ≤ length s
    → (n ≡ min (decimal (slice from to s)) 8589934592) × (n ≤ 8589934592)
sums-over {s} {from} {to} {j} p h k l =
    sums-all p (omega (arith, h, length-take-le (to - from) (drop from s) (omega (arith, length-drop from s))))
