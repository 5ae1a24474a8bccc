-- What an order changed of runs, and what it left: for each order that changed the rules, the comparison with the rules before it (the crate
-- oldrules, which has them and the proofs). Assumes nothing.
use Prim.Native.Nat.{ℕ}
use mathlib.Core.Path.{◌≡◌}
use mathlib.Core.Logic.{◌⊎◌}
use mathlib.Core.Option.{some}
use mathlib.Core.List.{List, []}
use lib.ListN.{length, take}
use Rattle.rules.specs.declared.Verdict.TheVariants.{Accepted}
use Rattle.rules.specs.declared.End.TheVariants.{Stopped}
use Rattle.rules.specs.declared.Stop.TheVariants.{Faulted}
use Rattle.rules.specs.Refusals.{check}
use Rattle.rules.specs.Published.{Bytes}
use Rattle.rules.specs.Control.{Control}
use Rattle.rules.specs.Run.{ran, run_script}
use Rattle.oldrules.specs.BeforeOrder2.{OldStore, old_run}
use Rattle.oldrules.specs.Compared.{StoresNone, FirstStored, SameRun}
use Rattle.oldrules.specs.BeforeOrder5.{null_run, ReadUnset, used_up, SameButUnset}
use Rattle.oldrules.proofs.EqualRuns as EqualRuns
use Rattle.oldrules.proofs.SetRuns as SetRuns
use Rattle.oldrules.proofs.SetRunsUntil as SetRunsUntil

-- ======== order 2: a fault in a field must stop. Both sides have order 5's rule: an unset variable is fault 8 by the rules before order 2 too

module _ (words : ℕ) (img : List ℕ) (are-bytes : Bytes img) (is-accepted : check [] words img ≡ Accepted) (choices : List ℕ) where
  -- "Show equal runs wherever the old one stores no fault": the same end, steps, frames, objects and control
  pub equal-runs : StoresNone img choices → SameRun (old_run img choices) (run_script img choices)
  equal-runs = EqualRuns.equal-runs words img are-bytes is-accepted choices

  -- else the run stops at the first step that stored a fault, or would have if there had been room, with that fault's number and the node where it
  -- arose; steps, store and control are those of the old run there
  pub stops-at-the-first : (before : List ℕ) (o : OldStore) (t : Control) (k n : ℕ)
      → FirstStored img choices before o t k n
      → run_script img choices ≡ ran (Stopped (Faulted k n)) (length before) o.values (some t)
  stops-at-the-first = EqualRuns.stops-at-the-first words img are-bytes is-accepted choices

  -- it is always one of the two
  pub none-or-first : StoresNone img choices
      ⊎ ((before : List ℕ) × (o : OldStore) × (t : Control) × (k : ℕ) × (n : ℕ) × FirstStored img choices before o t k n)
  none-or-first = EqualRuns.none-or-first words img are-bytes is-accepted choices

  -- so a run that ends without a fault is as it was
  pub without-fault-equal : ((k n : ℕ) → (run_script img choices).end ≡ Stopped (Faulted k n) → ⊥) → SameRun (old_run img choices) (run_script img choices)
  without-fault-equal = EqualRuns.without-fault-equal words img are-bytes is-accepted choices

-- ======== order 5: not set is not null. Both sides have order 2's rule

module _ (img choices : List ℕ) where
  -- a run that doesn't end with fault 8 is the run of before: the same end, steps and control, and the same store but that the cells which are still
  -- unset were null
  pub same-unless-read : (ReadUnset (run_script img choices) → ⊥) → SameButUnset (null_run img choices) (run_script img choices)
  same-unless-read = SetRuns.same-unless-read img choices

  -- one that does is the run of before up to that step, which before came to something else: no run ended with fault 8
  pub same-until-read : ReadUnset (run_script img choices)
      → SameButUnset (null_run img (take (run_script img choices).steps choices)) (used_up (run_script img choices))
  same-until-read = SetRunsUntil.same-until-read img choices

  pub never-read-before : ReadUnset (null_run img choices) → ⊥
  never-read-before = SetRuns.never-read-before img choices
