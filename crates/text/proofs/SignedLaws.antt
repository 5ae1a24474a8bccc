-- The two ways of writing a signed integer: the digits alone, or a minus sign before them. Assumes nothing.
use Prim.Native.Nat.{ℕ, suc}
use mathlib.Core.Path.{◌≡◌, sym, ap, ◌∙◌}
use mathlib.Core.Bool.{true, false, true≢false, false≢true}
use mathlib.Core.List.{[], ◌∷◌}
use native.Mathlib.Omega.{arith}
use lib.IntN.{ℤ, pos, negsuc, nat_abs}
use lib.Signed.{lt_z}
use borrow.Author.Tests.{le-ltb}
use Rattle.text.specs.declared.Page.{Page}
use Rattle.text.specs.Text.{decimal, signed}
use Rattle.text.specs.Written.{Adds}
use Rattle.text.proofs.WroteLaws.{both-adds, adds_as}

-- the size of z in m digits
pub signed_up : (z : ℤ) (m : ℕ) (p q : Page) → lt_z z (pos 0) ≡ false → m ≡ nat_abs z → Adds 20 p (decimal m) q → Adds 21 p (signed z) q
unfolding signed
signed_up (pos n) m p q l e a = adds_as 20 21 p q (decimal m) (decimal n) a (ap decimal e) (omega arith)
signed_up (negsuc n) m p q l e a = absurd (true≢false l)

pub signed-down : (z : ℤ) (m : ℕ) (p q r : Page) → lt_z z (pos 0) ≡ true → m ≡ nat_abs z → Adds 1 p (45 ∷ []) q → Adds 20 q (decimal m) r
    → Adds 21 p (signed z) r
unfolding signed
signed-down (pos n) m p q r l e a b = absurd (false≢true (sym (le-ltb n 0 (omega arith)) ∙ l))
signed-down (negsuc n) m p q r l e a b =
    adds_as 21 21 p r (45 ∷ decimal m) (45 ∷ decimal (suc n)) (both-adds 1 20 p q r (45 ∷ []) (decimal m) a b)
    (ap (λ (k : ℕ). 45 ∷ decimal k) e) (omega arith)
