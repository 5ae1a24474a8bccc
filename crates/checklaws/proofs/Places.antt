-- A search upward for the lowest broken place: nothing found so far (`none_yet`, `goes_on`), found (`found`), at the end
-- (`ended`).
-- For any rules. Assumes nothing.
use Prim.Native.Nat.{ℕ, zero, suc, ◌+◌, ◌<◌, ◌≤◌}
use mathlib.Core.Path.{◌≡◌, refl, sym, ◌∙◌}
use mathlib.Core.List.{List}
use mathlib.Core.Logic.{⊎_elim}
use native.Mathlib.Omega.{arith}
use native.Mathlib.Nat.{eq-or-lt_of_le}
use native.Mathlib.Numerals.{add-one}
use Rattle.rules.specs.declared.Verdict.TheVariants.{Accepted, Refused}
use Rattle.rules.specs.Refusals.{Reason, or_else, lowest}
use Rattle.checklaws.specs.Pieces.{place_says, rules_say}

module _ (img : List ℕ) (rs : List Reason) where
  pub none_yet : rules_say img rs 0 ≡ Accepted
  unfolding rules_say lowest
  none_yet = refl

  turn : (i : ℕ) → rules_say img rs i ≡ Accepted → rules_say img rs (suc i) ≡ place_says img rs i
  unfolding rules_say place_says lowest or_else
  turn i e = rw e

  pub goes_on : (i : ℕ) → rules_say img rs i ≡ Accepted → Accepted ≡ place_says img rs i → rules_say img rs (i + 1) ≡ Accepted
  goes_on i e h = rw (add-one i) (turn i e ∙ sym h)

  stays : (i n k p : ℕ) → rules_say img rs i ≡ Refused k p → i ≤ n → rules_say img rs n ≡ Refused k p
  unfolding rules_say lowest or_else
  stays i zero k p e h = let d : i ≡ 0 = omega arith in rw d at e
  stays i (suc n) k p e h =
      ⊎_elim
      (λ (d : i ≡ suc n). rw d at e)
      (λ (l : i < suc n). rw (stays i n k p e (omega arith)))
      (eq-or-lt_of_le {n = i} {m = suc n} h)

  pub found : (i k p n m : ℕ) → m ≡ n → rules_say img rs i ≡ Accepted → Refused k p ≡ place_says img rs i → i < m → Refused k p ≡ rules_say img rs n
  found i k p n m d e h l = sym (stays (suc i) n k p (turn i e ∙ sym h) (omega arith))

  pub ended : (i n m : ℕ) → m ≡ n → rules_say img rs i ≡ Accepted → i ≤ m → m ≤ i → Accepted ≡ rules_say img rs n
  ended i n m f e l h = let d : i ≡ n = omega arith in sym (rw d at e)

pub ruleset placing = (none_yet, goes_on, found, ended)
