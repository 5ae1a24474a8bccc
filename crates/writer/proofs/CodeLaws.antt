-- The codes of a list and those of the image, one by one. Assumes nothing.
use Prim.Native.Nat.{ℕ, ◌+◌, ◌<◌, ◌≤◌}
use mathlib.Core.Path.{◌≡◌, sym, ap, ◌∙◌}
use mathlib.Core.Bool.{true, false}
use mathlib.Core.Option.{some}
use mathlib.Core.List.{List}
use mathlib.Core.Logic.{⊎_elim}
use native.Mathlib.Omega.{arith}
use native.Mathlib.Nat.{eq-or-lt_of_le}
use lib.ListN.{length, get_or, get_elem?}
use Rattle.laws.specs.UpTo.{up_to, length-up_to, up_to-at, up_to-same}
use Rattle.rules.specs.Image.{fields_of, code_at}
use Rattle.writer.specs.Answer.{codes_of, SameCodes}

-- those below i are the same
pub record CodesTo (img codes : List ℕ) (i : ℕ) : Type 0 where
  pub is : (k : ℕ) → k < i → get_or codes k 0 ≡ code_at img k

pub codes_none : (img codes : List ℕ) → CodesTo img codes 0
codes_none img codes = record { is = λ k l. absurd (omega arith) }

pub codes_more : (img codes : List ℕ) (i x : ℕ) → CodesTo img codes i → x ≡ code_at img i → x ≡ get_or codes i 0 → CodesTo img codes (i + 1)
codes_more img codes i x c e f =
    record {
      is = λ k l. ⊎_elim (λ (j : k ≡ i). rw j (sym f ∙ e)) (λ (j : k < i). c.is k j) (eq-or-lt_of_le {n = k} {m = i} (omega arith));
    }

module _ (img codes : List ℕ) (count f : ℕ) (h : f ≡ fields_of img) where
  pub count_differs : (f ≡ count → ⊥) → SameCodes img codes count false
  count_differs n =
      record {
        says = λ e.
            let l = ap length e in
            let a = length-up_to (λ i. get_or codes i 0) count in
            let b = length-up_to (code_at img) (fields_of img) in
            n (omega arith);
      }

  module _ (s : f ≡ count) where
    pub code_differs : (i x : ℕ) → i < count → x ≡ code_at img i → (x ≡ get_or codes i 0 → ⊥) → SameCodes img codes count false
    code_differs i x l e n =
        record {
          says = λ q.
              let a = up_to-at (λ k. get_or codes k 0) count i l in
              let b = up_to-at (code_at img) (fields_of img) i (omega arith) in
              let z : some (get_or codes i 0) ≡ some (code_at img i) = sym a ∙ (ap (λ v. get_elem? v i) q ∙ b) in
              n (e ∙ (let y : code_at img i ≡ get_or codes i 0 = cc in y));
        }

    pub codes_same : (i : ℕ) → CodesTo img codes i → count ≤ i → SameCodes img codes count true
    codes_same i c l =
        let z : count ≡ fields_of img = omega arith in
        record { says = up_to-same (λ k. get_or codes k 0) (code_at img) count (λ k m. c.is k (omega arith)) ∙ ap (up_to (code_at img)) z }

-- the same codes are as many
pub same_count : (img codes : List ℕ) (count : ℕ) → up_to (λ i. get_or codes i 0) count ≡ codes_of img → count ≡ fields_of img
same_count img codes count e =
    let l = ap length e in
    let a = length-up_to (λ i. get_or codes i 0) count in
    let b = length-up_to (code_at img) (fields_of img) in
    omega arith
