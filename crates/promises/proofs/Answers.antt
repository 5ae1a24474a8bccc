-- An answer, by its numbers, and the verdict and run that it is made of: a refusal comes of a refused script alone, an end of
-- an accepted one, and numbers decide what they are of. Assumes nothing.
use Prim.Native.Nat.{ℕ}
use mathlib.Core.Path.{◌≡◌, refl, sym, ap, subst, ◌∙◌}
use mathlib.Core.List.{List, [], ◌∷◌, ◌++◌}
use native.Mathlib.Omega.{arith}
use Rattle.rules.specs.declared.Answer.TheVariants.{Refusal, Ending}
use Rattle.rules.specs.declared.End.{End}
use Rattle.rules.specs.declared.End.TheVariants.{Done, UsedUp, Stopped}
use Rattle.rules.specs.declared.Stop.TheVariants.{Faulted, Full, OutOfRange, NoRule}
use Rattle.rules.specs.declared.Verdict.{Verdict}
use Rattle.rules.specs.declared.Verdict.TheVariants.{Accepted, Refused}
use Rattle.rules.specs.Refusals.{check}
use Rattle.rules.specs.Run.{Ran, run_script, answered, answer_of}
use Rattle.rules.specs.Numbers.{stop_no, stop_values, end_no, end_values, verdict_numbers, refused_with, ended_with, answer_numbers}
use Rattle.rules.proofs.Numbers.{numbers-decide}
use Rattle.promises.specs.Saying.{Accepts}

-- the numbers of a verdict decide it
pub verdict-numbers-decide : (v w : Verdict) → verdict_numbers v ≡ verdict_numbers w → v ≡ w
unfolding verdict_numbers
verdict-numbers-decide Accepted Accepted e = refl
verdict-numbers-decide Accepted (Refused j q) e = let z : ◌≡◌ {A = ℕ} 0 1 = cc in absurd (omega arith)
verdict-numbers-decide (Refused k p) Accepted e = let z : ◌≡◌ {A = ℕ} 0 1 = cc in absurd (omega arith)
verdict-numbers-decide (Refused k p) (Refused j q) e =
    let a : k ≡ j = cc in
    let b : p ≡ q = cc in
    rw (a, b)

-- a verdict without numbers is acceptance
pub accepts-only : (words : ℕ) (img : List ℕ) → Accepts words img → check [] words img ≡ Accepted
unfolding verdict_numbers
accepts-only words img e = verdict-numbers-decide (check [] words img) Accepted e

pub accepts-if : (words : ℕ) (img : List ℕ) → check [] words img ≡ Accepted → Accepts words img
unfolding verdict_numbers
accepts-if words img e = ap verdict_numbers e

-- end 4 is that the choices are used up
pub four-used-up : (e : End) → end_no e ≡ 4 → e ≡ UsedUp
unfolding end_no stop_no
four-used-up Done p = absurd (omega (arith, p))
four-used-up UsedUp p = refl
four-used-up (Stopped (Faulted k n)) p = absurd (omega (arith, p))
four-used-up (Stopped (Full k)) p = absurd (omega (arith, p))
four-used-up (Stopped OutOfRange) p = absurd (omega (arith, p))
four-used-up (Stopped NoRule) p = absurd (omega (arith, p))

-- a list with one number more at its end
snoc-apart : (xs ys : List ℕ) (a b : ℕ) → (xs ++ (a ∷ [])) ≡ (ys ++ (b ∷ [])) → (xs ≡ ys) × (a ≡ b)
snoc-apart [] [] a b e = (refl, cc)
snoc-apart [] (y ∷ []) a b e = let z : ◌≡◌ {A = ℕ} 0 1 = cc in absurd (omega arith)
snoc-apart [] (y ∷ w ∷ ys) a b e = let z : ◌≡◌ {A = ℕ} 0 1 = cc in absurd (omega arith)
snoc-apart (x ∷ []) [] a b e = let z : ◌≡◌ {A = ℕ} 0 1 = cc in absurd (omega arith)
snoc-apart (x ∷ w ∷ xs) [] a b e = let z : ◌≡◌ {A = ℕ} 0 1 = cc in absurd (omega arith)
snoc-apart (x ∷ xs) (y ∷ ys) a b e =
    let h : x ≡ y = cc in
    let t : (xs ++ (a ∷ [])) ≡ (ys ++ (b ∷ [])) = cc in
    let r = snoc-apart xs ys a b t in
    (rw (h, r.0), r.1)

module _ (words : ℕ) (img choices : List ℕ) where
  by-check : (v : Verdict) → check [] words img ≡ v → answer_of words img choices ≡ answered v (run_script img choices)
  unfolding answer_of
  by-check v e = rw e

  pub refused-answer : (k p : ℕ) → check [] words img ≡ Refused k p → answer_numbers (answer_of words img choices) ≡ refused_with (k ∷ p ∷ [])
  unfolding answered answer_numbers
  refused-answer k p e = ap answer_numbers (by-check (Refused k p) e)

  pub answer-refused : (k p : ℕ) → answer_numbers (answer_of words img choices) ≡ refused_with (k ∷ p ∷ []) → check [] words img ≡ Refused k p
  unfolding answered answer_numbers
  answer-refused k p f = go (check [] words img) refl
    where
      go : (v : Verdict) → check [] words img ≡ v → check [] words img ≡ Refused k p
      go Accepted e =
          let x : answer_numbers (answered Accepted (run_script img choices)) ≡ refused_with (k ∷ p ∷ []) = ap answer_numbers (sym (by-check Accepted e)) ∙ f in
          let z : ◌≡◌ {A = ℕ} 0 1 = cc in
          absurd (omega arith)
      go (Refused j q) e =
          let x : Refusal j q ≡ Refusal k p = sym (by-check (Refused j q) e) ∙ numbers-decide (answer_of words img choices) (Refusal k p) f in
          let a : j ≡ k = cc in
          let b : q ≡ p = cc in
          e ∙ rw (a, b)

  -- the answer's numbers are those of an end, with these values, after n steps
  abbrev Ends : ℕ → List ℕ → ℕ → Type 0
  Ends e values n = answer_numbers (answer_of words img choices) ≡ ended_with (e ∷ (values ++ (n ∷ [])))

  module _ (accepted : check [] words img ≡ Accepted) where
    is-ending : answer_of words img choices ≡ Ending (run_script img choices).end (run_script img choices).steps
    unfolding answered
    is-ending = by-check Accepted accepted

    -- they are the run's
    pub accepted-answer : Ends (end_no (run_script img choices).end) (end_values (run_script img choices).end) (run_script img choices).steps
    unfolding answer_numbers
    accepted-answer = ap answer_numbers is-ending

    -- .. and no others
    pub answer-ends : (e : ℕ) (values : List ℕ) (n : ℕ) → Ends e values n
        → (end_no (run_script img choices).end ≡ e) × (end_values (run_script img choices).end ≡ values) × ((run_script img choices).steps ≡ n)
    answer-ends e values n f =
        let r : Ran _ = run_script img choices in
        let x : ended_with (end_no r.end ∷ (end_values r.end ++ (r.steps ∷ []))) ≡ ended_with (e ∷ (values ++ (n ∷ []))) = sym accepted-answer ∙ f in
        let a : end_no r.end ≡ e = cc in
        let t : (end_values r.end ++ (r.steps ∷ [])) ≡ (values ++ (n ∷ [])) = cc in
        let b = snoc-apart (end_values r.end) values r.steps n t in
        (a, b.0, b.1)

    -- end 3 with the value k is room k
    pub answer-room : (k n : ℕ) → Ends 3 (k ∷ []) n → (run_script img choices).end ≡ Stopped (Full k)
    unfolding answer_numbers end_no end_values stop_no stop_values
    answer-room k n f =
        let x : Ending (run_script img choices).end (run_script img choices).steps ≡ Ending (Stopped (Full k)) n =
        sym is-ending ∙ numbers-decide (answer_of words img choices) (Ending (Stopped (Full k)) n) f in
        cc

    pub room-answer : (k : ℕ) → (run_script img choices).end ≡ Stopped (Full k) → Ends 3 (k ∷ []) (run_script img choices).steps
    unfolding answer_numbers end_no end_values stop_no stop_values
    room-answer k e = subst (λ (x : End). Ends (end_no x) (end_values x) (run_script img choices).steps) e accepted-answer
