-- A number as a set of names: no name (`shows-none`), any number (`shows-some`), all 128 names (`bit-ones`), whether a name is
-- there (`seen-low`, `seen-high`: a bit of its half alone is looked at), and one name more (`also-low`, `also-high`). Assumes nothing.
use Prim.Native.Nat.{ℕ, zero, suc, ◌+◌, ◌*◌, ◌-◌, ◌/◌, ◌%◌, ◌^◌, ◌<◌, ◌≤◌}
use mathlib.Core.Path.{◌≡◌, refl, sym, ap, ◌∙◌}
use mathlib.Core.Bool.{Bool, true, false, cond}
use mathlib.Core.List.{[], ◌∷◌}
use native.Mathlib.Omega.{arith}
use native.Mathlib.Decide.{ℕ_discrete}
use native.Mathlib.Nat.{zero-div}
use lib.Bits.{bit_and, bit_or}
use lib.Pow.{pow-lt, pow-add}
use lib.Dec.{eqb}
use borrow.Author.Tests.{eq-eqb, ne_eqb}
use Rattle.std.specs.Int.{bit_at, w128}
use Rattle.std.proofs.lemmas.Nat.Bits.{shr_and_one, bit_at_set_same, bit_at_set_other, bit_at_ones, bit_at_cat_low, bit_at_cat_high}
use Rattle.rules.specs.Scope.{Names, has}
use Rattle.checklaws.specs.Bits.{bit, Shows}

pub shows-none : Shows 0 []
unfolding bit has
shows-none = record { shows = λ x l. rw (zero-div (2 ^ x)) refl }

-- the number of 128 ones has each name
pub bit-ones : (x : ℕ) → x < 128 → bit (2 ^ 128 - 1) x ≡ true
unfolding bit
bit-ones x l = eq-eqb ((2 ^ 128 - 1) / 2 ^ x % 2) 1 (bit_at_ones 128 x l)

-- any number is some names
those : (ℕ → Bool) → ℕ → Names
those f zero = []
those f (suc n) = cond (f n) (n ∷ those f n) (those f n)

has_above : (f : ℕ → Bool) (n x : ℕ) → n ≤ x → has x (those f n) ≡ false
unfolding those has
has_above f zero x l = refl
has_above f (suc n) x l = go (f n) (has_above f n x (omega arith))
  where
    go : (b : Bool) → has x (those f n) ≡ false → has x (cond b (n ∷ those f n) (those f n)) ≡ false
    go true e = rw (ne_eqb n x (λ d. omega arith)) e
    go false e = e

has-those : (f : ℕ → Bool) (n x : ℕ) → x < n → has x (those f n) ≡ f x
unfolding those has
has-those f zero x l = absurd (omega arith)
has-those f (suc n) x l = go (f n) refl (ℕ_discrete n x) (λ m. has-those f n x m)
  where
    go : (b : Bool) → f n ≡ b → Dec (n ≡ x) → (x < n → has x (those f n) ≡ f x) → has x (cond b (n ∷ those f n) (those f n)) ≡ f x
    go true e (yes d) rest = rw (eq-eqb n x d) (sym e ∙ ap f d)
    go true e (no d) rest = rw (ne_eqb n x d) (rest (omega arith))
    go false e (yes d) rest = has_above f n x (omega arith) ∙ sym e ∙ ap f d
    go false e (no d) rest = rest (omega arith)

-- the names that a number is
pub names_in : ℕ → Names
names_in w = those (bit w) 128

pub shows-some : (w : ℕ) → Shows w (names_in w)
unfolding names_in
shows-some w = record { shows = λ x l. sym (has-those (bit w) 128 x l) }

-- a bit of a number is a bit of its lower or of its upper half
low-bit : (w x : ℕ) → x < 64 → bit_at (w % 2 ^ 64) x ≡ bit_at w x
low-bit w x l =
    let e : w / 2 ^ 64 * 2 ^ 64 + w % 2 ^ 64 ≡ w = omega arith in
    sym (bit_at_cat_low (w / 2 ^ 64) 64 (w % 2 ^ 64) x l) ∙ ap (λ v. bit_at v x) e

high-bit : (w x : ℕ) → 64 ≤ x → bit_at (w / 2 ^ 64) (x - 64) ≡ bit_at w x
high-bit w x l =
    let e : w / 2 ^ 64 * 2 ^ 64 + w % 2 ^ 64 ≡ w = omega arith in
    sym (bit_at_cat_high (w / 2 ^ 64) 64 (w % 2 ^ 64) x (omega arith) l) ∙ ap (λ v. bit_at v x) e

-- a power of two, shifted in its half
low-power : (x : ℕ) → x < 64 → 1 * 2 ^ x % 2 ^ 64 ≡ 1 * 2 ^ x % 2 ^ 128
low-power x l = let h : 2 ^ x < 2 ^ 64 = pow-lt l in omega arith

high-power : (x : ℕ) → 64 ≤ x → x < 128 → 1 * 2 ^ (x - 64) % 2 ^ 64 * 2 ^ 64 % 2 ^ 128 ≡ 1 * 2 ^ x % 2 ^ 128
high-power x l m =
    let h : 2 ^ (x - 64) < 2 ^ 64 = let k : x - 64 < 64 = omega arith in pow-lt k in
    let e : x - 64 + 64 ≡ x = omega arith in
    let p : 2 ^ x ≡ 2 ^ (x - 64) * 2 ^ 64 = ap (λ v. 2 ^ v) (sym e) ∙ pow-add 2 (x - 64) 64 in
    omega arith

module _ {w : ℕ} {visible : Names} (h : Shows w visible) (x : ℕ) where
  pub seen-low : x < 64 → eqb (bit_and (w % 2 ^ 64 / 2 ^ x) 1) 1 ≡ has x visible
  unfolding bit
  seen-low l = rw (shr_and_one (w % 2 ^ 64) x, low-bit w x l) (h.shows x (omega arith))

  pub seen-high : 64 ≤ x → x < 128 → eqb (bit_and (w / 2 ^ 64 / 2 ^ (x - 64)) 1) 1 ≡ has x visible
  unfolding bit
  seen-high l m = rw (shr_and_one (w / 2 ^ 64) (x - 64), high-bit w x l) (h.shows x m)

  also : (b : ℕ) → x < 128 → b ≡ 1 * 2 ^ x % 2 ^ 128 → Shows (bit_or w b) (x ∷ visible)
  unfolding has bit
  also b l e =
      record {
        shows = λ y m.
            elim (ℕ_discrete y x) [
              | yes d ↦ rw (e, d, eq-eqb x x refl) (eq-eqb _ 1 (bit_at_set_same w128 w x l))
              | no f ↦ rw (e, ne_eqb x y (λ e. f (sym e)), bit_at_set_other w128 w x l y f) (h.shows y m)
            ];
      }

  pub also-low : (b : ℕ) → x < 64 → b ≡ 1 * 2 ^ x % 2 ^ 64 → Shows (bit_or w b) (x ∷ visible)
  also-low b l e = also b (omega arith) (e ∙ low-power x l)

  pub also-high : (b : ℕ) → 64 ≤ x → x < 128 → b ≡ 1 * 2 ^ (x - 64) % 2 ^ 64 → Shows (bit_or w (b * 2 ^ 64 % 2 ^ 128)) (x ∷ visible)
  also-high b l m e = also (b * 2 ^ 64 % 2 ^ 128) m (ap (λ v. v * 2 ^ 64 % 2 ^ 128) e ∙ high-power x l m)

pub ruleset bits = (seen-low, seen-high, also-low, also-high)
