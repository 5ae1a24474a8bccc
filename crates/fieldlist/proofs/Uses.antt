-- What a caller takes from an answer: the answer is the only one, and the codes in their order. Assumes nothing.
use Prim.Native.Nat.{ℕ, zero, suc}
use mathlib.Core.Path.{◌≡◌, refl, sym, ap, ◌∙◌}
use mathlib.Core.List.{List, ◌∷◌, map}
use lib.ListN.{get_or}
use Rattle.std.specs.Prelude.{Result}
use Rattle.laws.specs.UpTo.{up_to}
use Rattle.grammar.specs.FieldList.{entry, code_of}
use Rattle.fieldlist.specs.Names.{nowhere, word_at}
use Rattle.fieldlist.specs.Answer.{entries_of, Answers}
use Rattle.fieldlist.specs.declared.FieldRows.{FieldRows}
use Rattle.fieldlist.specs.declared.BadRow.{BadRow}

pub answers_one : {list : List ℕ} {r q : Result FieldRows BadRow} → Answers list r → Answers list q → r ≡ q
answers_one a b = a.is ∙ sym b.is

pub codes-of : (list : List ℕ) (r : FieldRows) → map code_of (entries_of list r) ≡ up_to (λ i. get_or r.codes i 0) r.count
unfolding entries_of up_to code_of
codes-of list r = go (λ i. word_at list (get_or r.names i nowhere)) (λ i. get_or r.codes i 0) r.count
  where
    go : (g : ℕ → List ℕ) (h : ℕ → ℕ) (n : ℕ) → map code_of (up_to (λ i. entry (g i) (h i)) n) ≡ up_to h n
    go g h zero = refl
    go g h (suc n) = ap (h zero ∷◌) (go (λ i. g (suc i)) (λ i. h (suc i)) n)
