-- A run that stops, of any machine: up to the step that isn't made it is the run over the choices of its steps, which are used up.
-- Assumes nothing.
use Prim.Native.Nat.{ℕ, suc, ◌+◌}
use mathlib.Core.Path.{◌≡◌, refl, sym, ap, ◌∙◌}
use mathlib.Core.Option.{Option, none, some}
use mathlib.Core.List.{List, [], ◌∷◌}
use native.Mathlib.Nat.{add-zero}
use native.Mathlib.Omega.{arith}
use lib.ListN.{take}
use Rattle.rules.specs.declared.Stop.{Stop}
use Rattle.rules.specs.declared.End.TheVariants.{Stopped}
use Rattle.rules.specs.Control.{Control, Outcome, goes_to, stops}
use Rattle.rules.specs.Step.{Machine, step}
use Rattle.rules.specs.Run.{Ran, ran, run_from}
use Rattle.rules.proofs.Runs.{run-moves, run-stops, run-used}
use Rattle.oldrules.specs.BeforeOrder5.{used_up}

module _ {S E : Type 0} (m : Machine S E) where
  -- a run that stops has used up the choices before, one for each step
  pub record UsedBefore (cs : List ℕ) (c : ℕ) (s : S) (o : Option Control) : Type 0 where
    pub taken : ℕ
    pub counted : (run_from m cs c s o).steps ≡ c + taken
    pub used : run_from m (take taken cs) c s o ≡ used_up (run_from m cs c s o)

  module _ (i : ℕ) (cs : List ℕ) (c : ℕ) (s : S) (t : Control) where
    used-more : (s₁ : S) (o : Option Control) → step m s t i ≡ goes_to s₁ o → UsedBefore cs (suc c) s₁ o → UsedBefore (i ∷ cs) c s (some t)
    used-more s₁ o e x =
        let whole : run_from m (i ∷ cs) c s (some t) ≡ run_from m cs (suc c) s₁ o = run-moves m i cs c s t s₁ o e in
        let more : suc c + x.taken ≡ c + suc x.taken = omega arith in
        record {
          taken = suc x.taken;
          counted = ap (λ (r : Ran S). r.steps) whole ∙ x.counted ∙ more;
          used = run-moves m i (take x.taken cs) c s t s₁ o e ∙ x.used ∙ ap used_up (sym whole);
        }

    used-none : (r : Stop) → step m s t i ≡ stops r → UsedBefore (i ∷ cs) c s (some t)
    unfolding ran
    used-none r e =
        let whole : run_from m (i ∷ cs) c s (some t) ≡ ran (Stopped r) c s (some t) = run-stops m i cs c s t r e in
        record {
          taken = 0;
          counted = ap (λ (q : Ran S). q.steps) whole ∙ sym (add-zero c);
          used = run-used m c s t ∙ ap used_up (sym whole);
        }

  pub used-before : (cs : List ℕ) (c : ℕ) (s : S) (o : Option Control) (r : Stop) → (run_from m cs c s o).end ≡ Stopped r → UsedBefore cs c s o
  unfolding run_from ran
  used-before [] c s none r e = let z : ◌≡◌ {A = ℕ} 0 1 = cc in absurd (omega arith)
  used-before [] c s (some t) r e = let z : ◌≡◌ {A = ℕ} 0 1 = cc in absurd (omega arith)
  used-before (i ∷ cs) c s none r e = let z : ◌≡◌ {A = ℕ} 0 1 = cc in absurd (omega arith)
  used-before (i ∷ cs) c s (some t) r e = go (step m s t i) refl (λ s₁ o. used-before cs (suc c) s₁ o r)
    where
      go : (x : Outcome S) → step m s t i ≡ x
          → ((s₁ : S) (o : Option Control) → (run_from m cs (suc c) s₁ o).end ≡ Stopped r → UsedBefore cs (suc c) s₁ o)
          → UsedBefore (i ∷ cs) c s (some t)
      go (goes_to s₁ o) f on = used-more i cs c s t s₁ o f (on s₁ o (ap (λ (q : Ran S). q.end) (sym (run-moves m i cs c s t s₁ o f)) ∙ e))
      go (stops q) f on = used-none i cs c s t q f
