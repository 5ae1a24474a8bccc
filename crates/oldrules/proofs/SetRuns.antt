-- Order 5, "Not set is not null": the runs before it and now, for every list of bytes and of choices, accepted or not. Where no
-- unset variable is read the runs are the same, but that a cell which is still unset held null; where one is read they are the
-- same up to that step (SetRunsUntil), where the run ends with fault 8 now. Before, no cell was unset, and no run ended with fault 8. Assumes nothing.
use Prim.Native.Nat.{ℕ, suc}
use mathlib.Core.Path.{◌≡◌, refl, sym, ap, subst, ◌∙◌}
use mathlib.Core.Bool.{Bool, true, false, cond}
use mathlib.Core.Logic.{◌⊎◌, inl, inr}
use mathlib.Core.Option.{Option, none, some, map}
use mathlib.Core.List.{List, [], ◌∷◌}
use native.Mathlib.Nat.{zero-add}
use native.Mathlib.Omega.{arith}
use lib.ListN.{take}
use Rattle.rules.specs.Script.{root_of}
use Rattle.rules.specs.declared.Value.{Value}
use Rattle.rules.specs.declared.Value.TheVariants.{Nothing, Null, Int, Field, Object, Proc, Unset}
use Rattle.rules.specs.declared.Frame.{Frame}
use Rattle.rules.specs.declared.Stop.{Stop}
use Rattle.rules.specs.declared.Stop.TheVariants.{Faulted, Full}
use Rattle.rules.specs.declared.End.{End}
use Rattle.rules.specs.declared.End.TheVariants.{Done, UsedUp, Stopped}
use Rattle.rules.specs.State.{Store, empty, with_cell, frame_at}
use Rattle.rules.specs.Eval.{unset_variable, fault_no}
use Rattle.rules.specs.Control.{Control, fits, Outcome, goes_to, stops, room_no, of_control}
use Rattle.rules.specs.Step.{step, mini_oo}
use Rattle.rules.specs.Run.{Ran, ran, onward, run_from, run, bare, begins, machine, start, run_script}
use Rattle.rules.proofs.Runs.{run-moves, run-stops}
use Rattle.oldrules.specs.BeforeOrder5.{null_machine, null_run, nulled, cell_nulled, with_nulls, ReadUnset, used_up, SameButUnset}
use Rattle.oldrules.proofs.SetReads.{entry-nulled}
use Rattle.oldrules.proofs.Until.{used-before}
use Rattle.oldrules.proofs.SetSteps.{outcome_before, StepCompares, same_step, stops-now, step-compares, StopsOtherwise, WithoutUnset, never-unset-step}

-- ---- from any moment

-- a run as it is now, with null for unset
unfoldable pub ran_before : Ran Store → Ran Store
ran_before r = ran r.end r.steps (with_nulls r.store) r.control

module _ (img : List ℕ) where
  -- c steps counted before
  pub data RunCompares (cs : List ℕ) (c : ℕ) (s : Store) (o : Option Control) : Type 0 where
    same-run : run_from (null_machine img) cs c (with_nulls s) o ≡ ran_before (run_from (machine img) cs c s o) → RunCompares cs c s o
    reads : ReadUnset (run_from (machine img) cs c s o) → RunCompares cs c s o

  module _ (i : ℕ) (cs : List ℕ) (c : ℕ) (s : Store) (t : Control) where
    -- the first step goes on as it did
    goes_same : (s₁ : Store) (o : Option Control)
        → step (null_machine img) (with_nulls s) t i ≡ goes_to (with_nulls s₁) o
        → step (machine img) s t i ≡ goes_to s₁ o
        → RunCompares cs (suc c) s₁ o
        → RunCompares (i ∷ cs) c s (some t)
    goes_same s₁ o e f (same-run g) =
        same-run
        (run-moves (null_machine img) i cs c (with_nulls s) t (with_nulls s₁) o e ∙ g ∙ ap ran_before (sym (run-moves (machine img) i cs c s t s₁ o f)))
    goes_same s₁ o e f (reads x) = reads (subst ReadUnset (sym (run-moves (machine img) i cs c s t s₁ o f)) x)

    -- it stopped as it does
    stops_same : (r : Stop) → step (null_machine img) (with_nulls s) t i ≡ stops r → step (machine img) s t i ≡ stops r → RunCompares (i ∷ cs) c s (some t)
    unfolding ran_before ran
    stops_same r e f = same-run (rw (run-stops (null_machine img) i cs c (with_nulls s) t r e, run-stops (machine img) i cs c s t r f))

    begins-so : StepCompares img s t i → ((s₁ : Store) (o : Option Control) → RunCompares cs (suc c) s₁ o) → RunCompares (i ∷ cs) c s (some t)
    unfolding outcome_before ran
    begins-so (same_step e) on = go (step (machine img) s t i) refl
      where
        go : (x : Outcome Store) → step (machine img) s t i ≡ x → RunCompares (i ∷ cs) c s (some t)
        go (goes_to s₁ o) f = goes_same s₁ o (e ∙ ap outcome_before f) f (on s₁ o)
        go (stops r) f = stops_same r (e ∙ ap outcome_before f) f
    begins-so (stops-now n e) on = reads (n, ap (λ (r : Ran Store). r.end) (run-stops (machine img) i cs c s t (Faulted (fault_no unset_variable) n) e))

  run-compares : (cs : List ℕ) (c : ℕ) (s : Store) (o : Option Control) → RunCompares cs c s o
  unfolding run_from ran_before ran
  run-compares [] c s none = same-run refl
  run-compares [] c s (some t) = same-run refl
  run-compares (i ∷ cs) c s none = same-run refl
  run-compares (i ∷ cs) c s (some t) = begins-so i cs c s t (step-compares img s t i) (λ s₁ o. run-compares cs (suc c) s₁ o)

-- ---- the runs of a script

as_before : (r q : Ran Store) → q ≡ ran_before r → SameButUnset q r
unfolding ran_before ran
as_before r q e = rw e (record { end = refl; steps = refl; store = refl; control = refl })

-- and nothing is left out of it
pub same-in-all : (r q : Ran Store) → SameButUnset q r → q ≡ ran_before r
unfolding ran_before ran
same-in-all r q x = rw (sym x.end, sym x.steps, sym x.store, sym x.control)

module _ (img cs : List ℕ) where
  -- The runs are the same but for the cells that are still unset, or the run reads an unset variable.
  pub same-or-read : SameButUnset (null_run img cs) (run_script img cs) ⊎ ReadUnset (run_script img cs)
  unfolding null_run run_script run begins null_machine mini_oo ran_before ran with_nulls empty
  same-or-read = go (fits (some (start img))) (run-compares img cs 0 empty (some (start img)))
    where
      whole : Bool → Ran Store → Ran Store
      whole b r = cond b r (ran (Stopped (Full (room_no of_control))) 0 empty none)

      go : (b : Bool)
          → RunCompares img cs 0 empty (some (start img))
          → SameButUnset (whole b (run_from (null_machine img) cs 0 empty (some (start img)))) (whole b (run_from (machine img) cs 0 empty (some (start img))))
          ⊎ ReadUnset (whole b (run_from (machine img) cs 0 empty (some (start img))))
      go true (same-run e) = inl (as_before _ _ e)
      go true (reads x) = inr x
      go false x = inl (as_before _ _ refl)

  -- So where no unset variable is read, the runs are the same but for those cells.
  pub same-unless-read : (ReadUnset (run_script img cs) → ⊥) → SameButUnset (null_run img cs) (run_script img cs)
  same-unless-read none_read = go same-or-read
    where
      go : SameButUnset (null_run img cs) (run_script img cs) ⊎ ReadUnset (run_script img cs) → SameButUnset (null_run img cs) (run_script img cs)
      go (inl x) = x
      go (inr x) = absurd (none_read x)

-- ---- up to the read

module _ (img cs : List ℕ) where
  -- the choices of the steps that were made
  abbrev pub until : List ℕ
  until = take (run_script img cs).steps cs

  -- over the choices of its steps, a run that reads an unset variable has not read it yet
  pub not-read-yet : ReadUnset (run_script img cs) → run_script img until ≡ used_up (run_script img cs)
  unfolding run_script run ran
  not-read-yet x = go (fits (some (start img))) x
    where
      whole : Bool → List ℕ → Ran Store
      whole b ds = cond b (run_from (machine img) ds 0 empty (some (start img))) (ran (Stopped (Full (room_no of_control))) 0 empty none)

      go : (b : Bool) → ReadUnset (whole b cs) → whole b (take (whole b cs).steps cs) ≡ used_up (whole b cs)
      go true x =
          let u = used-before (machine img) cs 0 empty (some (start img)) (Faulted (fault_no unset_variable) x.0) x.1 in
          let k-is : (whole true cs).steps ≡ u.taken = u.counted ∙ zero-add u.taken in
          ap (λ (k : ℕ). whole true (take k cs)) k-is ∙ u.used
      go false x = let y = x.1 in let z : ◌≡◌ {A = ℕ} 0 1 = cc in absurd (omega arith)

-- ---- before, no variable was unset

-- an end that is not with fault 8
abbrev EndsOtherwise : End → Type 0
EndsOtherwise Done = Unit {0}
EndsOtherwise UsedUp = Unit {0}
EndsOtherwise (Stopped r) = StopsOtherwise r

-- what a run before left: null stands where a cell would be unset; and how it did not end
record WasSet (r : Ran Store) : Type 0 where
  left : (s : Store) × (r.store ≡ with_nulls s)
  ends : EndsOtherwise r.end

module _ (img : List ℕ) where
  runs-set : (cs : List ℕ) (c : ℕ) (s : Store) (o : Option Control) → WasSet (run_from (null_machine img) cs c (with_nulls s) o)
  unfolding run_from onward ran
  runs-set [] c s none = record { left = (s, refl); ends = tt }
  runs-set [] c s (some t) = record { left = (s, refl); ends = tt }
  runs-set (i ∷ cs) c s none = record { left = (s, refl); ends = tt }
  runs-set (i ∷ cs) c s (some t) = go (step (null_machine img) (with_nulls s) t i) (never-unset-step img s t i) (λ s₁ o. runs-set cs (suc c) s₁ o)
    where
      go : (x : Outcome Store)
          → WithoutUnset x
          → ((s₁ : Store) (o : Option Control) → WasSet (run_from (null_machine img) cs (suc c) (with_nulls s₁) o))
          → WasSet (onward (run_from (null_machine img) cs (suc c)) c (with_nulls s) t x)
      go (goes_to s₁ o) h on = rw h.1 (on h.0 o)
      go (stops r) h on = record { left = (s, refl); ends = h }

  was-set : (cs : List ℕ) → WasSet (null_run img cs)
  unfolding null_run run ran with_nulls empty
  was-set cs = go (fits (some (begins (null_machine img) bare (root_of img))))
    where
      go : (b : Bool)
          → WasSet (cond b (run_from (null_machine img) cs 0 empty (some (begins (null_machine img) bare (root_of img)))) (ran (Stopped (Full (room_no of_control))) 0 empty none))
      go true = runs-set cs 0 empty (some (begins (null_machine img) bare (root_of img)))
      go false = record { left = (empty, refl); ends = tt }

-- with null for unset nothing is unset
value_set : (v : Value) → nulled v ≡ Unset → ⊥
unfolding nulled
value_set Nothing e = let z : ◌≡◌ {A = ℕ} 0 1 = cc in omega arith
value_set Unset e = let z : ◌≡◌ {A = ℕ} 0 1 = cc in omega arith
value_set Null e = let z : ◌≡◌ {A = ℕ} 0 1 = cc in omega arith
value_set (Int b) e = let z : ◌≡◌ {A = ℕ} 0 1 = cc in omega arith
value_set (Field f) e = let z : ◌≡◌ {A = ℕ} 0 1 = cc in omega arith
value_set (Object o) e = let z : ◌≡◌ {A = ℕ} 0 1 = cc in omega arith
value_set (Proc n ch) e = let z : ◌≡◌ {A = ℕ} 0 1 = cc in omega arith

nulls-set : (s : Store) (k : ℕ) (f : Frame) → frame_at (with_nulls s) k ≡ some f → f.cell ≡ Unset → ⊥
unfolding with_nulls cell_nulled with_cell
nulls-set s k f e u = go (frame_at s k) (sym (entry-nulled s.frames k) ∙ e)
  where
    go : (o : Option Frame) → map cell_nulled o ≡ some f → ⊥
    go none d = let z : ◌≡◌ {A = ℕ} 0 1 = cc in omega arith
    go (some g) d = let is : cell_nulled g ≡ f = cc in value_set g.cell (ap (λ (h : Frame). h.cell) is ∙ u)

module _ (img cs : List ℕ) where
  -- Before, no cell was ever unset ..
  pub never-unset-before : (k : ℕ) (f : Frame) → frame_at (null_run img cs).store k ≡ some f → f.cell ≡ Unset → ⊥
  never-unset-before k f e = let (s, is) = (was-set img cs).left in nulls-set s k f (ap (λ (q : Store). frame_at q k) (sym is) ∙ e)

  -- .. so that fault 8 was no end.
  pub never-read-before : ReadUnset (null_run img cs) → ⊥
  never-read-before x = subst EndsOtherwise x.1 (was-set img cs).ends

  -- So where an unset variable is read now, the runs end otherwise.
  pub read-is-another-end : ReadUnset (run_script img cs) → (null_run img cs).end ≡ (run_script img cs).end → ⊥
  read-is-another-end x e = never-read-before (x.0, e ∙ x.1)
