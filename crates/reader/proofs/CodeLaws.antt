-- The codes of a list that is right, as words: they stay as they are. Assumes nothing.
use Prim.Native.Nat.{ℕ, zero, suc, ◌%◌, ◌<◌, ◌≤◌}
use mathlib.Core.Path.{◌≡◌, refl, sym, ap, ◌∙◌}
use mathlib.Core.List.{List, [], ◌∷◌, map}
use native.Mathlib.Omega.{arith}
use lib.ListN.{length, get_or, take}
use Rattle.laws.specs.UpTo.{up_to}
use Rattle.grammar.specs.FieldList.{code_of}
use Rattle.fieldlist.specs.declared.FieldRows.{FieldRows}
use Rattle.fieldlist.specs.Answer.{entries_of, RightRows}
use Rattle.fieldlist.proofs.Uses.{codes-of}

narrow-same : (f : ℕ) (codes : List ℕ) → ((i : ℕ) → i < f → get_or codes i 0 < 65536) → take f (map (λ c. c % 65536) codes) ≡ take f codes
narrow-same zero codes h = refl
narrow-same (suc f) [] h = refl
narrow-same (suc f) (c ∷ codes) h =
    let l : c < 65536 = h zero (omega arith) in
    let e : c % 65536 ≡ c = omega arith in
    let es = narrow-same f codes (λ i k. h (suc i) (omega arith)) in
    rw (e, es)

take-up_to : (n : ℕ) (l : List ℕ) → n ≤ length l → take n l ≡ up_to (λ i. get_or l i 0) n
unfolding up_to
take-up_to zero l h = refl
take-up_to (suc n) [] h = absurd (omega arith)
take-up_to (suc n) (x ∷ l) h = ap (x ∷◌) (take-up_to n l (omega arith))

-- what isn't zero stands in the list
all-inside : (n : ℕ) (l : List ℕ) → ((i : ℕ) → i < n → 0 < get_or l i 0) → n ≤ length l
all-inside zero l h = omega arith
all-inside (suc n) [] h = let z = h zero (omega arith) in absurd (omega arith)
all-inside (suc n) (x ∷ l) h = let r = all-inside n l (λ i k. h (suc i) (omega arith)) in omega arith

-- the codes of a list that is right
pub narrow-codes : (list : List ℕ) (rows : FieldRows) → RightRows list rows
    → take rows.count (map (λ c. c % 65536) rows.codes) ≡ map code_of (entries_of list rows)
narrow-codes list rows r =
    narrow-same rows.count rows.codes (λ i h. (r.coded i h).1)
    ∙ take-up_to rows.count rows.codes (all-inside rows.count rows.codes (λ i h. (r.coded i h).0))
    ∙ sym (codes-of list rows)
