-- What the pen's functions ensure has one answer, and one thing that is then drawn. Assumes nothing.
use Prim.Native.Nat.{ℕ}
use mathlib.Core.Path.{◌≡◌}
use mathlib.Core.List.{List, [], ◌++◌}
use Rattle.std.specs.Prelude.{Option}
use Rattle.pen.specs.Behind.{gap_at, behind, last_kind, mark_of}
use Rattle.pen.specs.Draws.{Puts, Token, Marks}
use Rattle.pen.specs.declared.Pen.{Pen}
use Rattle.pen.proofs.DrawLaws.{drawn-one}

module _ (p : Pen) {r s : Pen} where
  pub puts-one-answer : (bs : List ℕ) → Puts bs p r → Puts bs p s → (r.out.now ≡ s.out.now) × (r.place ≡ s.place)
  puts-one-answer bs v w = drawn-one p.most (λ j. bs) (λ j. j) p.out.now r.out.now s.out.now p.place r.place s.place v.says w.says

  pub token-one-answer : (k : ℕ) (bs : List ℕ) → Token k bs p r → Token k bs p s → (r.out.now ≡ s.out.now) × (r.place ≡ s.place)
  token-one-answer k bs v w = drawn-one p.most (λ j. gap_at j k ++ bs) (λ j. k) p.out.now r.out.now s.out.now p.place r.place s.place v.says w.says

  pub marks-one-answer : (k : Option ℕ) → Marks k p r → Marks k p s → (r.out.now ≡ s.out.now) × (r.place ≡ s.place)
  marks-one-answer k v w =
      drawn-one p.most (λ j. behind [] [] j (mark_of k)) (λ j. last_kind j (mark_of k)) p.out.now r.out.now s.out.now p.place r.place s.place
      (v.says [] []).says (w.says [] []).says
