-- Attribute codes read from any bytes. Assumes nothing.
use Prim.Native.Nat.{ℕ, zero, suc, ◌+◌, ◌*◌, ◌-◌, ◌<◌, ◌≤◌}
use mathlib.Core.Path.{◌≡◌, refl, sym, ap, ◌∙◌}
use mathlib.Core.List.{List}
use native.Mathlib.Omega.{arith}
use lib.ListN.{length, get_or, get_or-eq_default}
use Rattle.rules.specs.Image.{code_at}
use Rattle.listed.specs.Listing.{code_of}

pub past_end : (img : List ℕ) (i : ℕ) → length img ≤ i → ◌≡◌ {A = ℕ} 0 (get_or img i 0) × (0 < 256)
past_end img i h = (sym (get_or-eq_default img 0 h), omega arith)

pub code-at-is : (img : List ℕ) (i p lo hi : ℕ) → p ≡ 10 + 2 * i → lo ≡ get_or img p 0 → hi ≡ get_or img (p + 1) 0 → lo + hi * 256 ≡ code_at img i
unfolding code_at
code-at-is img i p lo hi e a b = rw (a, b, e)

pub code-of-none : (img : List ℕ) (f : ℕ) → f ≡ 0 → ◌≡◌ {A = ℕ} 0 (code_of img f)
unfolding code_of
code-of-none img f e = rw e

pub code-of-some : (img : List ℕ) (f r : ℕ) → (f ≡ 0 → ⊥) → r ≡ code_at img (f - 1) → r ≡ code_of img f
unfolding code_of
code-of-some img zero r h e = absurd (h refl)
code-of-some img (suc i) r h e =
    let d : suc i - 1 ≡ i = omega arith in
    e ∙ ap (code_at img) d
