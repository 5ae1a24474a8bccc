-- What a moment gives, for any machine: the run over all its choices passes through it, after as many steps as choices
-- used (`moment-passed`); and it is a moment of every run whose choices begin with these (`moment-longer`).
-- Assumes nothing.
use Prim.Native.Nat.{ℕ}
use mathlib.Core.Path.{◌≡◌}
use mathlib.Core.Option.{Option, some}
use mathlib.Core.List.{List, ◌++◌, append_assoc}
use native.Mathlib.Nat.{zero-add}
use lib.ListN.{length}
use borrow.Author.Tests.{le-leb}
use Rattle.rules.specs.State.{most_parts}
use Rattle.rules.specs.Control.{Control, parts, fits}
use Rattle.rules.specs.Step.{Machine}
use Rattle.rules.specs.Run.{run_from, Start, run, begins}
use Rattle.safety.specs.Reaches.{Moment}
use Rattle.safety.proofs.Reaches.{run-reaches}

module _ {S E : Type 0} (m : Machine S E) (st : Start S) (root : ℕ) (cs : List ℕ) (s : S) (o : Option Control) (x : Moment m st root cs s o) where
  pub moment-passed : run m st root cs ≡ run_from m x.rest (length x.used) s o
  unfolding run fits
  moment-passed =
      let reaches = run-reaches m s o x.used st.store (some (begins m st root)) x.reached x.rest 0 in
      rw (le-leb (parts (begins m st root)) most_parts x.fits, x.is, reaches, zero-add)

  pub moment-longer : (ds : List ℕ) → Moment m st root (cs ++ ds) s o
  moment-longer ds =
      record {
        fits = x.fits;
        used = x.used;
        rest = x.rest ++ ds;
        is = rw (x.is, append_assoc);
        reached = x.reached;
      }
