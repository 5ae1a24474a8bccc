-- What a caller in C or Rust is told of a text: each kind of answer computed, none of them zeros, and no two readings told alike; so a text, a list and what is lent
-- determine the numbers, every lent word and every byte of the output. And the words to lend, by the code's test. Assumes nothing.
use Prim.Native.Nat.{ℕ, ◌-◌, ◌/◌, ◌<◌, ◌≤◌}
use mathlib.Core.Path.{◌≡◌, refl, sym, ap, ◌∙◌}
use mathlib.Core.List.{List, [], ◌∷◌, ◌++◌}
use native.Mathlib.Omega.{arith}
use lib.ListN.{length, drop}
use borrow.Author.Tests.{le-leb, lt-leb}
use Rattle.grammar.specs.Reads.{words_for}
use Rattle.grammar.proofs.Answers.{refused-one}
use Rattle.reading.proofs.Answered.{one-image, image-or-refusal}
use Rattle.std.specs.Prelude.{Result, Ok, Err}
use Rattle.reader.specs.declared.ReadError.{ReadError}
use Rattle.reader.specs.Says.{ReadSays, words_after}
use Rattle.told.specs.Written.{Written, written_of, TellsReading, largest, words_asked}

-- ---- the answers

pub read-answers
    : (written_of (Ok 34) ∷ written_of (Err (record { number = 23; line = 5 })) ∷ written_of (Err (record { number = 28; line = 0 })) ∷ [])
    ≡ (record { verdict = 1; number = 0; line = 0; length = 34 }
    ∷ record { verdict = 2; number = 23; line = 5; length = 0 }
    ∷ record { verdict = 2; number = 28; line = 0; length = 0 }
    ∷ [])
unfolding written_of
read-answers = refl

pub zeros-are-no-reading : (a : Result ℕ ReadError) → (written_of a).verdict ≡ 0 → ⊥
unfolding written_of
zeros-are-no-reading (Ok n) e = let z : ◌≡◌ {A = ℕ} 1 0 = e in omega arith
zeros-are-no-reading (Err x) e = let z : ◌≡◌ {A = ℕ} 2 0 = e in omega arith

-- ---- the words to lend

pub words-computed : (words_asked 0 ∷ words_asked 4 ∷ words_asked 18446744073709551615 ∷ []) ≡ (4 ∷ 16 ∷ 18446744073709551615 ∷ [])
unfolding words_asked largest
words-computed = refl

pub words-told : (n : ℕ) → n ≤ (18446744073709551615 - 4) / 3 → words_for n ≡ words_asked n
unfolding words_asked largest
words-told n h = rw (le-leb (words_for n) largest (omega arith))

pub words-past-telling : (n : ℕ) → (18446744073709551615 - 4) / 3 < n → largest ≡ words_asked n
unfolding words_asked largest
words-past-telling n h = rw (lt-leb (words_for n) largest (omega arith))

-- ---- one answer

-- the numbers, the lent words and the output
abbrev pub Alike : Written → Written → List ℕ → List ℕ → List ℕ → List ℕ → Type 0
Alike a b ws₁ ws₂ out₁ out₂ = (a ≡ b) × ((ws₁ ≡ ws₂) × (out₁ ≡ out₂))

one-reading : (list text ws out : List ℕ) {ws₁ ws₂ out₁ out₂ : List ℕ} (a b : Result ℕ ReadError)
    → ReadSays list text a ws out ws₁ out₁
    → ReadSays list text b ws out ws₂ out₂
    → Alike (written_of a) (written_of b) ws₁ ws₂ out₁ out₂
one-reading list text ws out (Ok n) (Ok m) p q =
    let same : p.img ≡ q.img = one-image p.reads q.reads in
    let long : n ≡ m = p.long ∙ ap length same ∙ sym q.long in
    (ap (λ k. written_of (Ok k)) long, (p.words ∙ sym q.words, p.output ∙ both same long ∙ sym q.output))
  where
    both : {i j : List ℕ} → i ≡ j → n ≡ m → i ++ drop n out ≡ j ++ drop m out
    both {i} {j} e f = ap (λ k. k ++ drop n out) e ∙ ap (λ k. j ++ drop k out) f
one-reading list text ws out (Ok n) (Err x) p q = absurd (image-or-refusal p.reads q.refuses)
one-reading list text ws out (Err x) (Ok n) p q = absurd (image-or-refusal q.reads p.refuses)
one-reading list text ws out (Err x) (Err y) p q =
    let same : (x.number ≡ y.number) × (x.line ≡ y.line) = refused-one p.refuses q.refuses in (
      ap (λ i. written_of (Err (record { number = i; line = x.line }))) same.0 ∙ ap (λ i. written_of (Err (record { number = y.number; line = i }))) same.1,
      (p.words ∙ ap (λ i. words_after i text ws) same.0 ∙ sym q.words, p.output ∙ sym q.output),
    )

pub one_answer : {list text ws out ws₁ ws₂ out₁ out₂ : List ℕ} {a b : Written}
    → TellsReading list text a ws out ws₁ out₁
    → TellsReading list text b ws out ws₂ out₂
    → Alike a b ws₁ ws₂ out₁ out₂
one_answer {list} {text} {ws} {out} p q =
    let same = one-reading list text ws out p.reading q.reading p.says q.says in
    (p.is ∙ same.0 ∙ sym q.is, same.1)
