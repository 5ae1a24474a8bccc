-- Tests taken apart: what two of them joined say of each; and the answer to a question, which is one. Assumes nothing.
use Rattle.std.specs.Prelude.{◌≡◌, refl, Bool, true, false, ◌&&◌, ◌||◌}
use Rattle.std.proofs.Common.{true≢false}
use Rattle.std.proofs.lemmas.Bool.{false≢true}

pub and_both : (a b : Bool) → (a && b) ≡ true → (a ≡ true) × (b ≡ true)
and_both true b e = (refl, e)
and_both false b e = absurd (false≢true e)

pub or-neither : (a b : Bool) → (a || b) ≡ false → (a ≡ false) × (b ≡ false)
or-neither true b e = absurd (true≢false e)
or-neither false b e = (refl, e)

pub or_left : (a b : Bool) → (a || b) ≡ false → a ≡ false
or_left a b e = (or-neither a b e).0

pub or_right : (a b : Bool) → (a || b) ≡ false → b ≡ false
or_right a b e = (or-neither a b e).1

-- the answer to a question
abbrev pub TrueIff : Bool → Type 0 → Type 0
TrueIff true A = A
TrueIff false A = A → ⊥

pub true-iff-one : (r q : Bool) (A : Type 0) → TrueIff r A → TrueIff q A → r ≡ q
true-iff-one true true A a b = refl
true-iff-one true false A a b = absurd (b a)
true-iff-one false true A a b = absurd (a b)
true-iff-one false false A a b = refl

pub or_assoc : (a b c : Bool) → (a || (b || c)) ≡ (a || b || c)
or_assoc true b c = refl
or_assoc false b c = refl
