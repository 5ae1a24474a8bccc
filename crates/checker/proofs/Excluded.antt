-- What the contract of `check` leaves out (document 01, "Refused scripts"): an answer that is always accepted, and one that
-- is always a refusal. One script is accepted and one refused, by computing; and the contract leaves only one answer.
-- Assumes nothing.
use Prim.Native.Nat.{ℕ}
use mathlib.Core.Path.{◌≡◌, refl, sym, ap, ◌∙◌}
use mathlib.Core.List.{List, []}
use native.Mathlib.Omega.{arith}
use Rattle.std.specs.Prelude.{Result, Ok, Err, IfOk}
use Rattle.rules.specs.declared.Verdict.{Verdict}
use Rattle.rules.specs.declared.Verdict.TheVariants.{Accepted, Refused}
use Rattle.rules.specs.State.{size}
use Rattle.rules.specs.Scope.{Names}
use Rattle.rules.specs.Refusals.{check}
use Rattle.image.specs.declared.refusals.Refusal.{Refusal}
use Rattle.image.specs.Refusals.{verdict_of}
use Rattle.image.proofs.Determined.{answer-one}
use Rattle.checklaws.specs.Bits.{Shows}
use Rattle.checklaws.proofs.BitLaws.{shows-none, shows-some}
use Rattle.rules.proofs.Opens.{opens}
use Rattle.cases.proofs.Cases.{skip_alone}

-- what `check` of src/lib.rt ensures of the verdict that its answer is, of any function
abbrev pub Meets : (ℕ → List ℕ → ℕ → Verdict) → Type 0
Meets f = (words : ℕ) (img : List ℕ) (names : ℕ) (visible : Names) → Shows names visible → f words img names ≡ check visible words img

pub accepts-one : check [] size skip_alone ≡ Accepted
unfolding opens
accepts-one = refl

pub refuses-one : check [] size [] ≡ Refused 1 0
unfolding opens
refuses-one = refl

differ : (k p : ℕ) → Accepted ≡ Refused k p → ⊥
differ k p e = let z : ◌≡◌ {A = ℕ} 0 1 = cc in absurd (omega arith)

module _ (f : ℕ → List ℕ → ℕ → Verdict) (meets : Meets f) where
  pub not-all-accepted : ((words : ℕ) (img : List ℕ) (names : ℕ) → f words img names ≡ Accepted) → ⊥
  not-all-accepted all = differ 1 0 (sym (all size [] 0) ∙ meets size [] 0 [] shows-none ∙ refuses-one)

  pub not-all-refused : (k p : ℕ → List ℕ → ℕ → ℕ) → ((words : ℕ) (img : List ℕ) (names : ℕ) → f words img names ≡ Refused (k words img names) (p words img names)) → ⊥
  not-all-refused k p all = differ _ _ (sym accepts-one ∙ sym (meets size skip_alone 0 [] shows-none) ∙ all size skip_alone 0)

  -- any other that meets it answers the same
  pub only_one : (g : ℕ → List ℕ → ℕ → Verdict) → Meets g → (words : ℕ) (img : List ℕ) (names : ℕ) → f words img names ≡ g words img names
  only_one g also words img names =
      let s = shows-some names in
      meets words img names _ s ∙ sym (also words img names _ s)

-- ---- the whole answer

-- all that `check` of src/lib.rt ensures, of any function: the verdict, and that a script that passes is these bytes
pub record Answers (f : ℕ → List ℕ → ℕ → Result (List ℕ) Refusal) : Type 0 where
  pub says : Meets (λ words img names. verdict_of (f words img names))
  pub same : (words : ℕ) (img : List ℕ) (names : ℕ) → IfOk (f words img names) (λ checked. checked ≡ img)

-- the verdict, and what a script that passes is, are the answer
one : (img : List ℕ) (r q : Result (List ℕ) Refusal) → verdict_of r ≡ verdict_of q → IfOk r (λ checked. checked ≡ img) → IfOk q (λ checked. checked ≡ img) → r ≡ q
one img (Ok a) (Ok b) e p q = ap Ok (p ∙ sym q)
one img (Ok a) (Err y) e p q = absurd (differ _ _ e)
one img (Err x) (Ok b) e p q = absurd (differ _ _ (sym e))
one img (Err x) (Err y) e p q = let z = answer-one (Err x) (Err y) e in cc

-- any other that ensures it gives the same answer
pub only_one_answer
    : (f g : ℕ → List ℕ → ℕ → Result (List ℕ) Refusal) → Answers f → Answers g → (words : ℕ) (img : List ℕ) (names : ℕ) → f words img names ≡ g words img names
only_one_answer f g a b words img names = one img _ _ (only_one _ a.says _ b.says words img names) (a.same words img names) (b.same words img names)
