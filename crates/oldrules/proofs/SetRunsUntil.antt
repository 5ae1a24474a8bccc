-- Of SetRuns, what follows from its last lemma, in a file of its own: so a must-fail edit that makes that lemma fail is read as refused. Assumes nothing.
use Prim.Native.Nat.{ℕ}
use mathlib.Core.Path.{◌≡◌, sym, ap, subst, ◌∙◌}
use mathlib.Core.List.{List}
use native.Mathlib.Omega.{arith}
use Rattle.rules.specs.State.{Store}
use Rattle.rules.specs.Run.{Ran, ran, run_script}
use Rattle.oldrules.specs.BeforeOrder5.{null_run, ReadUnset, used_up, SameButUnset}
use Rattle.oldrules.proofs.SetRuns.{same-unless-read, until, not-read-yet}

module _ (img cs : List ℕ) where
  -- Up to the read of an unset variable the runs are the same, but for the cells that are unset then.
  pub same-until-read : ReadUnset (run_script img cs) → SameButUnset (null_run img (until img cs)) (used_up (run_script img cs))
  unfolding ran
  same-until-read x =
      let e = not-read-yet img cs x in
      subst (SameButUnset (null_run img (until img cs))) e
      (same-unless-read img (until img cs) λ y. let used = sym y.1 ∙ ap (λ (r : Ran Store). r.end) e in let z : ◌≡◌ {A = ℕ} 0 1 = cc in omega arith)
