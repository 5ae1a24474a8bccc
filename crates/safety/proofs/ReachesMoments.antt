-- Demand 3 at any moment of a run of a script whose root fits, from any start that fits, for any choices: the invariant; the names that the next
-- step could need; the values held; something can move; only an entered block moves; how the run can end.
-- Room is in RoomsRuns and RoomsRunsIf. Assumes nothing.
use Prim.Native.Nat.{ℕ, ◌<◌, ◌≤◌}
use mathlib.Core.Path.{◌≡◌, refl}
use mathlib.Core.Bool.{true}
use mathlib.Core.Option.{Option, some}
use mathlib.Core.List.{List, [], ◌∷◌}
use native.Mathlib.Omega.{arith}
use lib.ListN.{length, get_elem?}
use lib.Dec.{T}
use borrow.Author.Tests.{le-leb}
use Rattle.rules.specs.declared.Chain.{Chain}
use Rattle.rules.specs.declared.Value.{Value}
use Rattle.rules.specs.declared.Value.TheVariants.{Nothing, Unset}
use Rattle.rules.specs.State.{Store, AnObject, object_at, most_parts}
use Rattle.rules.specs.Script.{Script}
use Rattle.rules.specs.Control.{Control, parts, fits, atom_in, Move, move, movable, goes_to}
use Rattle.rules.specs.Step.{step, mini_oo}
use Rattle.rules.specs.Run.{run_from, Start, run, begins}
use Rattle.rules.specs.Numbers.{end_no, end_values}
use Rattle.rules.proofs.ControlLaws.{some-moves}
use Rattle.safety.specs.Safe.{FitCmd, RealCell, Given, Safe}
use Rattle.safety.specs.Needs.{needs}
use Rattle.safety.specs.Found.{Borne, HeldIn}
use Rattle.safety.specs.Reaches.{Moment, Left}
use Rattle.safety.specs.Numbered.{EndNumbered}
use Rattle.safety.specs.Atoms.{Innermost, Sealed, AtomMoves}
use Rattle.safety.proofs.LinksNeeded.{names-found, held-exists, never-nothing, no-field-unset}
use Rattle.safety.proofs.Ends.{run-leaves}
use Rattle.safety.proofs.Entered.{innermost, others-wait}
use Rattle.safety.proofs.AtomsNodes.{only-that-atom-moves}
use Rattle.safety.proofs.Preserved.{start-safe, reaches-safe, ready_at, run_sound}

module _ (sc : Script) (st : Start Store) (given : Given sc st) (root : ℕ) (cs : List ℕ) (fit : FitCmd sc st.names (sc.cmd_at root)) where
  pub moment-safe : (s : Store) (o : Option Control) → Moment (mini_oo sc) st root cs s o → Safe sc s o
  moment-safe s o x =
      reaches-safe sc s o x.used st.store (some (begins (mini_oo sc) st root)) x.reached (start-safe sc st given root fit x.fits)

  -- Every name the next step could need is found, on its own command's chain, in a cell that exists.
  pub needed-found : (s : Store) (t : Control)
      → Moment (mini_oo sc) st root cs s (some t)
      → (i n : ℕ) (ch : Chain) (x : ℕ)
      → get_elem? (movable t) i ≡ some (move n ch)
      → T (needs (sc.cmd_at n) x)
      → Borne s ch x
  needed-found s t y i n ch x p h =
      let safe : Safe sc s (some t) = moment-safe s (some t) y in
      names-found sc s n ch x (ready_at sc s t safe i n ch p).seen h

  -- Every object and procedure held anywhere exists; nothing is never held, and unset in no field.
  pub held-real : (s : Store) (o : Option Control)
      → Moment (mini_oo sc) st root cs s o
      → (v : Value)
      → HeldIn s v
      → RealCell sc s v
  held-real s o x v h = held-exists sc s (moment-safe s o x).store v h

  pub nothing-held : (s : Store) (o : Option Control) → Moment (mini_oo sc) st root cs s o → HeldIn s Nothing → ⊥
  nothing-held s o x h = never-nothing sc s (moment-safe s o x).store h

  pub no-unset-field : (s : Store) (o : Option Control) → Moment (mini_oo sc) st root cs s o
      → (k i : ℕ) (obj : AnObject) → object_at s k ≡ some obj → get_elem? obj.values i ≡ some Unset → ⊥
  no-unset-field s o x = no-field-unset sc s (moment-safe s o x).store

  -- From the step that enters an atomic block to the step that leaves it, only that block moves.
  pub only-the-block-moves : (s : Store) (t : Control)
      → Moment (mini_oo sc) st root cs s (some t)
      → (i n : ℕ) (ch : Chain)
      → AtomMoves sc t i n ch
      → (s₁ : Store) (o₁ : Option Control)
      → step (mini_oo sc) s t i ≡ goes_to s₁ o₁
      → Sealed (mini_oo sc) t i n ch s₁ o₁
  only-the-block-moves s t x i n ch a s₁ o₁ e =
      only-that-atom-moves sc s t i n ch (moment-safe s (some t) x).control.nested a s₁ o₁ e

  -- At any moment with an entered atom, the movable commands are those inside the innermost one.
  pub inside-only : (s : Store) (t : Control)
      → Moment (mini_oo sc) st root cs s (some t)
      → atom_in t ≡ true
      → (x : Innermost t) × (movable t ≡ movable x.inner)
  inside-only s t y e =
      let x : Innermost t = innermost t e in
      (x, others-wait t (moment-safe s (some t) y).control.nested x.stands)

  -- The run can stop only as done, as one of the eight faults, for the choices, or for room.
  pub ends-numbered : EndNumbered sc.nodes (end_no (run (mini_oo sc) st root cs).end) (end_values (run (mini_oo sc) st root cs).end)
  ends-numbered = (run_sound sc st given root fit cs).end

-- While something is left in control, something can move.
pub can-move : (t : Control) → (v : Move) × (get_elem? (movable t) 0 ≡ some v)
can-move t = go (movable t) (some-moves t)
  where
    go : (l : List Move) → 0 < length l → (v : Move) × (get_elem? l 0 ≡ some v)
    go [] h = absurd (omega arith)
    go (v ∷ l) h = (v, refl)

-- What a run leaves is one of its moments.
pub run-moment : (sc : Script) (st : Start Store) (root : ℕ) (cs : List ℕ)
    → parts (begins (mini_oo sc) st root) ≤ most_parts
    → Moment (mini_oo sc) st root cs (run (mini_oo sc) st root cs).store (run (mini_oo sc) st root cs).control
unfolding run fits
run-moment sc st root cs h =
    let b : Control = begins (mini_oo sc) st root in
    let x : Left (mini_oo sc) cs 0 st.store (some b) (run_from (mini_oo sc) cs 0 st.store (some b)) =
    run-leaves (mini_oo sc) cs 0 st.store (some b) in
    rw (le-leb (parts b) most_parts h) (record { fits = h; used = x.used; rest = x.rest; is = x.is; reached = x.reached })
