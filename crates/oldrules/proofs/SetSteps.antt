-- A step before order 5 and now, for every script, store and control: from the store with null in its unset cells it came to
-- what it comes to now, with null in the cells that are unset then; or now it stops with fault 8. Before, no step made an unset
-- cell, and none stopped with fault 8. Assumes nothing.
use Prim.Native.Nat.{ℕ}
use mathlib.Core.Path.{◌≡◌, refl, sym, ap, subst, ◌∙◌}
use mathlib.Core.Bool.{Bool, true, false, cond, not}
use mathlib.Core.Option.{Option, none, some}
use mathlib.Core.List.{List}
use lib.ListN.{get_elem?}
use lib.Dec.{T, eqb}
use Rattle.rules.specs.Script.{Script, script_of}
use Rattle.rules.specs.declared.Chain.{Chain}
use Rattle.rules.specs.declared.Effect.{Effect}
use Rattle.rules.specs.declared.Stop.{Stop}
use Rattle.rules.specs.declared.Stop.TheVariants.{Faulted, Full, OutOfRange, NoRule}
use Rattle.rules.specs.State.{Store}
use Rattle.rules.specs.Eval.{unset_variable, fault_no, Res, ok, fault, stuck, ◌>>=◌}
use Rattle.rules.specs.Control.{Control, fits, Move, move, movable, Outcome, goes_to, stops, room_no, of_control}
use Rattle.rules.specs.Step.{Deed, deed, exec, apply, short_of, with_room, planned, Plan, does, refuses, put, remains, judged, chosen, plan, follow, step, mini_oo}
use Rattle.rules.specs.Run.{machine}
use Rattle.oldrules.specs.BeforeOrder5.{null_machine, with_nulls}
use Rattle.oldrules.proofs.SetFaults.{NoUnset}
use Rattle.oldrules.proofs.SetReads.{Agrees, same, reads-unset, no-fault-8, exec-agrees}
use Rattle.oldrules.proofs.SetDeeds.{effect_before, deed_before, before, null-exec, apply-same, short-same}

-- ---- what a step came to: what it comes to, with null for unset

unfoldable pub plan_before : Plan Effect → Plan Effect
plan_before (does e x) = does (effect_before e) x
plan_before (refuses r) = refuses r

unfoldable pub outcome_before : Outcome Store → Outcome Store
outcome_before (goes_to s o) = goes_to (with_nulls s) o
outcome_before (stops r) = stops r

planned-same : (s : Store) (r : Res Deed) → planned (with_nulls s) (before r) ≡ plan_before (planned s r)
unfolding planned before deed_before ◌>>=◌ plan_before with_room
planned-same s (ok (deed e x)) = rw (short-same e s) (go (short_of e s))
  where
    go : (o : Option ℕ) → with_room o (effect_before e) x ≡ plan_before (with_room o e x)
    go none = refl
    go (some k) = refl
planned-same s (fault k n) = refl
planned-same s stuck = refl

-- a stop that is not fault 8
abbrev pub StopsOtherwise : Stop → Type 0
StopsOtherwise (Faulted k n) = T (not (eqb k (fault_no unset_variable)))
StopsOtherwise (Full k) = Unit {0}
StopsOtherwise OutOfRange = Unit {0}
StopsOtherwise NoRule = Unit {0}

-- no cell of the store that it goes to is unset, as null is put for each; nor does it stop with fault 8
abbrev pub WithoutUnset : Outcome Store → Type 0
WithoutUnset (goes_to s o) = (s' : Store) × (s ≡ with_nulls s')
WithoutUnset (stops r) = StopsOtherwise r

module _ (img : List ℕ) where
  abbrev sc : Script
  sc = script_of img

  judged-same : (t : Control) (i : ℕ) (p : Plan Effect) → judged (null_machine img) t i (plan_before p) ≡ plan_before (judged (machine img) t i p)
  unfolding judged plan_before null_machine mini_oo
  judged-same t i (does e x) = go (fits (put sc.cmd_at t i (remains sc.cmd_at x)))
    where
      go : (b : Bool)
          → cond b (does (effect_before e) x) (refuses (Full (room_no of_control)))
          ≡ plan_before (cond b (does e x) (refuses (Full (room_no of_control))))
      go true = refl
      go false = refl
  judged-same t i (refuses r) = refl

  follow-same : (s : Store) (t : Control) (i : ℕ) (p : Plan Effect)
      → follow (null_machine img) (with_nulls s) t i (plan_before p) ≡ outcome_before (follow (machine img) s t i p)
  unfolding follow plan_before outcome_before null_machine mini_oo
  follow-same s t i (does e x) = rw (apply-same sc e s)
  follow-same s t i (refuses r) = refl

  -- ---- a step

  pub data StepCompares (s : Store) (t : Control) (i : ℕ) : Type 0 where
    same_step : step (null_machine img) (with_nulls s) t i ≡ outcome_before (step (machine img) s t i) → StepCompares s t i
    stops-now : (n : ℕ) → step (machine img) s t i ≡ stops (Faulted (fault_no unset_variable) n) → StepCompares s t i

  -- choice i picks the command at node n, in the chain ch
  module _ (s : Store) (t : Control) (i n : ℕ) (ch : Chain) (picks : get_elem? (movable t) i ≡ some (move n ch)) where
    -- what the step comes to, by what its command does
    unfoldable comes_to : Res Deed → Outcome Store
    comes_to r = follow (machine img) s t i (judged (machine img) t i (planned s r))

    now-comes : step (machine img) s t i ≡ comes_to (exec sc s ch (sc.cmd_at n))
    unfolding comes_to step plan chosen mini_oo
    now-comes = rw picks

    -- before, the command read null in each unset cell
    came : step (null_machine img) (with_nulls s) t i ≡ outcome_before (comes_to (exec sc (with_nulls s) ch (sc.cmd_at n)))
    unfolding comes_to step plan chosen null_machine
    came =
        let r = exec sc (with_nulls s) ch (sc.cmd_at n) in
        rw (picks, null-exec sc (with_nulls s) ch (sc.cmd_at n), planned-same s r, judged-same t i (planned s r))
        (follow-same s t i (judged (machine img) t i (planned s r)))

    fault-stops : (k m : ℕ) → exec sc s ch (sc.cmd_at n) ≡ fault k m → step (machine img) s t i ≡ stops (Faulted k m)
    unfolding comes_to judged follow planned
    fault-stops k m e = now-comes ∙ rw e

    command-compares : Agrees (exec sc (with_nulls s) ch (sc.cmd_at n)) (exec sc s ch (sc.cmd_at n)) → StepCompares s t i
    command-compares (same h e) = same_step (came ∙ ap (λ r. outcome_before (comes_to r)) e ∙ ap outcome_before (sym now-comes))
    command-compares (reads-unset h m e) = stops-now m (fault-stops (fault_no unset_variable) m e)

    without-unset : (r : Res Deed) → NoUnset r → WithoutUnset (outcome_before (comes_to r))
    unfolding comes_to outcome_before judged follow planned with_room mini_oo
    without-unset (ok (deed e x)) h = go (short_of e s)
      where
        fitting : (b : Bool) → WithoutUnset (outcome_before (follow (machine img) s t i (cond b (does e x) (refuses (Full (room_no of_control))))))
        fitting true = (apply sc e s, refl)
        fitting false = tt

        go : (o : Option ℕ) → WithoutUnset (outcome_before (follow (machine img) s t i (judged (machine img) t i (with_room o e x))))
        go none = fitting (fits (put sc.cmd_at t i (remains sc.cmd_at x)))
        go (some k) = tt
    without-unset (fault k m) h = h
    without-unset stuck h = tt

  pub step-compares : (s : Store) (t : Control) (i : ℕ) → StepCompares s t i
  unfolding step plan chosen outcome_before follow
  step-compares s t i = go (get_elem? (movable t) i) refl
    where
      go : (o : Option Move) → get_elem? (movable t) i ≡ o → StepCompares s t i
      go none e = same_step (rw e)
      go (some (move n ch)) e = command-compares s t i n ch e (exec-agrees s ch sc (sc.cmd_at n))

  -- before, no step made an unset cell or read one
  pub never-unset-step : (s : Store) (t : Control) (i : ℕ) → WithoutUnset (step (null_machine img) (with_nulls s) t i)
  unfolding step plan chosen follow
  never-unset-step s t i = go (get_elem? (movable t) i) refl
    where
      go : (o : Option Move) → get_elem? (movable t) i ≡ o → WithoutUnset (step (null_machine img) (with_nulls s) t i)
      go none e = rw e tt
      go (some (move n ch)) e =
          subst WithoutUnset (sym (came s t i n ch e))
          (without-unset s t i n ch e (exec sc (with_nulls s) ch (sc.cmd_at n)) (no-fault-8 _ _ (exec-agrees s ch sc (sc.cmd_at n))))
