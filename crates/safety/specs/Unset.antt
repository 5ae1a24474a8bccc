-- Which variables are unset, by the steps of a run (order 5: "Let a cell made by var begin as unset"): a step declared the variable, and
-- none after it has stored to it, by an assignment or a malloc of a name that means it. No cell is looked at: that the unset cells are
-- those of exactly these variables, at every moment of a run, is shown in proofs/UnsetRuns and UnsetIf. Assumes nothing.
use Rattle.std.specs.Prelude.{ℕ, ◌≡◌, List, [], ◌∷◌, ◌++◌}
use Rattle.std.proofs.Math.Option.{Option, some}
use Rattle.std.proofs.Math.ListN.{get_elem?}
use Rattle.rules.specs.Syntax.{Exp, Cmd, var, malloc, assign}
use Rattle.rules.specs.declared.Chain.{Chain}
use Rattle.rules.specs.declared.Frame.{Frame}
use Rattle.rules.specs.declared.Value.TheVariants.{Unset}
use Rattle.rules.specs.State.{Store, find, frame_at, next_frame}
use Rattle.rules.specs.Script.{Script}
use Rattle.rules.specs.Control.{Control, move, movable, goes_to}
use Rattle.rules.specs.Step.{step, mini_oo}
use Rattle.safety.specs.Reaches.{Reaches}

-- the cell of frame k is unset
pub record UnsetAt (s : Store) (k : ℕ) : Type 0 where
  pub frame : Frame
  pub is : frame_at s k ≡ some frame
  pub unset : frame.cell ≡ Unset

-- a command that stores to the variable x
pub data Sets (x : ℕ) : Cmd → Type 0 where
  an-assignment : {n : ℕ} {e : Exp} → Sets x (assign n x e)
  a-malloc : {n : ℕ} → Sets x (malloc n x)

module _ (sc : Script) where
  -- choice i picks a declaration, and its variable gets frame k
  pub record Declares (s : Store) (t : Control) (i k : ℕ) : Type 0 where
    pub node : ℕ
    pub chain : Chain
    pub picks : get_elem? (movable t) i ≡ some (move node chain)
    pub number : ℕ
    pub name : ℕ
    pub inner : Cmd
    pub is : sc.cmd_at node ≡ var number name inner
    pub gets : next_frame s ≡ k

  -- choice i picks a command that stores to a variable, and its name means frame k
  pub record StoresTo (s : Store) (t : Control) (i k : ℕ) : Type 0 where
    pub node : ℕ
    pub chain : Chain
    pub picks : get_elem? (movable t) i ≡ some (move node chain)
    pub name : ℕ
    pub sets : Sets name (sc.cmd_at node)
    pub finds : find s.frames name chain ≡ some k

  -- the choices lead from s with o to s' with o' (`Reaches`), and no step of theirs stores to the variable of frame k
  pub data NotStored (k : ℕ) (s' : Store) (o' : Option Control) : List ℕ → Store → Option Control → Type 0 where
    stays : NotStored k s' o' [] s' o'
    goes : {i : ℕ} {cs : List ℕ} {s : Store} {t : Control} {s₁ : Store} {o : Option Control}
        → (StoresTo s t i k → ⊥)
        → step (mini_oo sc) s t i ≡ goes_to s₁ o
        → NotStored k s' o' cs s₁ o
        → NotStored k s' o' (i ∷ cs) s (some t)

  -- of the choices that lead from s with o to s' with o', one declared the variable of frame k, and none after it has stored to it
  pub record DeclaredOnly (k : ℕ) (s' : Store) (o' : Option Control) (cs : List ℕ) (s : Store) (o : Option Control) : Type 0 where
    pub before : List ℕ
    pub choice : ℕ
    pub since : List ℕ
    pub is : cs ≡ before ++ (choice ∷ since)
    pub store : Store
    pub control : Control
    pub reached : Reaches (mini_oo sc) store (some control) before s o
    pub declares : Declares store control choice k
    pub next : Store
    pub left : Option Control
    pub steps : step (mini_oo sc) store control choice ≡ goes_to next left
    pub untouched : NotStored k s' o' since next left
