-- What a caller in C or Rust is told of an image as text: each kind of answer computed, none of them zeros, and two answers are one, in the numbers and in every byte of
-- the output. Assumes nothing.
use Prim.Native.Nat.{ℕ}
use mathlib.Core.Path.{◌≡◌, refl, sym, ap, ◌∙◌}
use mathlib.Core.List.{List, [], ◌∷◌}
use native.Mathlib.Omega.{arith}
use Rattle.std.specs.Prelude.{Result, Ok, Err}
use Rattle.writer.specs.declared.WriteError.{WriteError}
use Rattle.writer.specs.declared.WriteError.TheVariants.{BadImage, BadList, OtherCodes, TooShort}
use Rattle.writer.proofs.Determined.{answers_one}
use Rattle.told.specs.Images.{Spelt, spelt_of, TellsText}

pub write-answers
    : (spelt_of (Ok 12) ∷ spelt_of (Err BadImage) ∷ spelt_of (Err BadList) ∷ spelt_of (Err OtherCodes) ∷ spelt_of (Err TooShort) ∷ [])
    ≡ (record { verdict = 1; number = 0; length = 12 }
    ∷ record { verdict = 2; number = 30; length = 0 }
    ∷ record { verdict = 2; number = 31; length = 0 }
    ∷ record { verdict = 2; number = 32; length = 0 }
    ∷ record { verdict = 2; number = 33; length = 0 }
    ∷ [])
unfolding spelt_of
write-answers = refl

pub zeros-are-no-text : (a : Result ℕ WriteError) → (spelt_of a).verdict ≡ 0 → ⊥
unfolding spelt_of
zeros-are-no-text (Ok n) e = let z : ◌≡◌ {A = ℕ} 1 0 = e in omega arith
zeros-are-no-text (Err k) e = let z : ◌≡◌ {A = ℕ} 2 0 = e in omega arith

pub one-text : {img list lent out o : List ℕ} {a b : Spelt} → TellsText img list a lent out → TellsText img list b lent o → (a ≡ b) × (out ≡ o)
one-text p q =
    let same = answers_one p.says q.says in
    (p.is ∙ (ap spelt_of same.0 ∙ sym q.is), same.1)
