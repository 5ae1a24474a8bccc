-- Of RoomsRuns, what follows from its last lemma, in a file of its own: so a must-fail edit that makes that lemma fail is read as refused. Assumes nothing.
use Prim.Native.Nat.{ℕ}
use mathlib.Core.Path.{◌≡◌}
use mathlib.Core.Option.{some}
use mathlib.Core.List.{List}
use borrow.Author.Tests.{le-leb, lt-leb}
use Rattle.rules.specs.declared.Stop.TheVariants.{Full}
use Rattle.rules.specs.declared.End.TheVariants.{Stopped}
use Rattle.rules.specs.State.{Store, most_parts}
use Rattle.rules.specs.Script.{Script}
use Rattle.rules.specs.Control.{parts, fits}
use Rattle.rules.specs.Step.{mini_oo}
use Rattle.rules.specs.Run.{ran, run, Start, begins}
use Rattle.safety.specs.Reaches.{StoppedAt}
use Rattle.safety.specs.Rooms.{ForRoom, at-start, in-run}
use Rattle.safety.proofs.Ends.{stops-if}
use Rattle.safety.proofs.RoomsRuns.{room-if}

module _ (sc : Script) where
  pub room-exactly-if : (st : Start Store) (root : ℕ) (cs : List ℕ) (k : ℕ)
      → ForRoom sc st root cs k
      → (run (mini_oo sc) st root cs).end ≡ Stopped (Full k)
  unfolding run fits ran
  room-exactly-if st root cs _ (at-start h) = rw (lt-leb (parts (begins (mini_oo sc) st root)) most_parts h)
  room-exactly-if st root cs k (in-run b c d s t f is r x) =
      let stopped : StoppedAt (mini_oo sc) cs st.store (some (begins (mini_oo sc) st root)) (Full k) =
      record { before = b; choice = c; rest = d; is = is; store = s; control = t; reached = r; refused = room-if sc s t c k x } in
      rw (le-leb (parts (begins (mini_oo sc) st root)) most_parts f, stops-if (mini_oo sc) cs 0 st.store (some (begins (mini_oo sc) st root)) (Full k) stopped)
