-- Of UnsetRuns, what follows from its last lemma, in a file of its own: so a must-fail edit that makes that lemma fail is read as refused. Assumes nothing.
use Prim.Native.Nat.{ℕ}
use mathlib.Core.Option.{Option}
use mathlib.Core.List.{List}
use Rattle.rules.specs.State.{Store}
use Rattle.rules.specs.Script.{Script}
use Rattle.rules.specs.Control.{Control}
use Rattle.safety.specs.Unset.{UnsetAt, DeclaredOnly}
use Rattle.safety.proofs.UnsetSteps.{declared-unset}
use Rattle.safety.proofs.UnsetRuns.{not-stored-unset}

module _ (sc : Script) (k : ℕ) (s' : Store) (o' : Option Control) where
  pub unset-if : (cs : List ℕ) (s : Store) (o : Option Control) → DeclaredOnly sc k s' o' cs s o → UnsetAt s' k
  unset-if cs s o d =
      not-stored-unset sc k s' o' d.since d.next d.left d.untouched
      (declared-unset sc d.store d.control d.choice d.next d.left d.steps k d.declares)
