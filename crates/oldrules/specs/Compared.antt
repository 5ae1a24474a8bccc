-- What order 2 asks to be shown: "equal runs wherever the old one stores no fault". The runs are those of the same script over
-- the same choices, by the rules before order 2 and by the rules. Assumes nothing.
use Rattle.std.specs.Prelude.{ℕ, ◌<◌, ◌≡◌, List, [], ◌∷◌, ◌++◌, length}
use Rattle.std.proofs.Math.Option.{some}
use Rattle.std.proofs.Math.ListN.{get_elem?}
use Rattle.rules.specs.Script.{script_of, root_of}
use Rattle.rules.specs.declared.Chain.{Chain}
use Rattle.rules.specs.State.{Store}
use Rattle.rules.specs.Eval.{ok}
use Rattle.rules.specs.Control.{Control, move, movable}
use Rattle.rules.specs.Step.{Deed}
use Rattle.rules.specs.Run.{Ran, begins}
use Rattle.safety.specs.Reaches.{StartFits, Reaches}
use Rattle.oldrules.specs.BeforeOrder2.{Place, OldStore, old_deed, old_exec, old_machine, old_bare}

module _ (img : List ℕ) where
  -- the step that choice i makes of this control, or would make if there were room for it, stores a fault: number k, which arose at node n
  pub record StoresFault (o : OldStore) (t : Control) (i k n : ℕ) : Type 0 where
    pub node : ℕ
    pub chain : Chain
    pub chosen : get_elem? (movable t) i ≡ some (move node chain)
    pub does : Deed
    pub place : Place
    pub stores : old_exec (script_of img) o chain ((script_of img).cmd_at node) ≡ ok (old_deed does (some (record { place = place; number = k; arose = n })))

  -- the old run over cs comes, after the choices `before`, to this store and control, and choice i is next: a step of that run, taken or not
  pub record OldStep (cs before : List ℕ) (o : OldStore) (t : Control) (i : ℕ) : Type 0 where
    pub fits : StartFits (old_machine img) old_bare (root_of img)
    pub rest : List ℕ
    pub is : cs ≡ before ++ (i ∷ rest)
    pub reached : Reaches (old_machine img) o (some t) before old_bare.store (some (begins (old_machine img) old_bare (root_of img)))

  -- no step of the old run, taken or not, stores a fault
  abbrev pub StoresNone : List ℕ → Type 0
  StoresNone cs = (before : List ℕ) (o : OldStore) (t : Control) (i : ℕ) → OldStep cs before o t i → (k n : ℕ) → StoresFault o t i k n → ⊥

  -- the first step of the old run, taken or not, that stores a fault: number k, which arose at node n
  pub record FirstStored (cs before : List ℕ) (o : OldStore) (t : Control) (k n : ℕ) : Type 0 where
    pub choice : ℕ
    pub step : OldStep cs before o t choice
    pub stores : StoresFault o t choice k n
    pub first : (earlier : List ℕ) (p : OldStore) (u : Control) (i : ℕ) → OldStep cs earlier p u i → length earlier < length before
        → (j m : ℕ) → StoresFault p u i j m → ⊥

-- the same end, steps, frames, objects and control; and no fault is stored
pub record SameRun (old : Ran OldStore) (new : Ran Store) : Type 0 where
  pub end : old.end ≡ new.end
  pub steps : old.steps ≡ new.steps
  pub frames : old.store.values.frames ≡ new.store.frames
  pub objects : old.store.values.objects ≡ new.store.objects
  pub control : old.control ≡ new.control
  pub no-fault : old.store.faults ≡ []
