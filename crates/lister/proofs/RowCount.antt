-- A run has a row for each step that it takes. Assumes nothing.
use Prim.Native.Nat.{ℕ, suc, ◌+◌}
use mathlib.Core.Path.{◌≡◌, refl}
use mathlib.Core.Bool.{Bool, true, false, cond}
use mathlib.Core.Option.{Option, none, some}
use mathlib.Core.List.{List, [], ◌∷◌}
use native.Mathlib.Omega.{arith}
use lib.ListN.{length, get_elem?}
use Rattle.rules.specs.declared.End.TheVariants.{Stopped}
use Rattle.rules.specs.declared.Stop.TheVariants.{Full}
use Rattle.rules.specs.Control.{Control, fits, Move, move, movable, Outcome, goes_to, stops}
use Rattle.rules.specs.Step.{Machine, chosen, plan, follow, step, mini_oo}
use Rattle.rules.specs.Run.{ran, onward, run_from, run, run_script, begins, bare, Start}
use Rattle.rules.specs.Script.{script_of, root_of}
use Rattle.words.specs.Lent.{row_then, rows_from, rows, step_row, rows_of}

module _ {S E A : Type 0} (m : Machine S E) (keep : ℕ → ℕ → S → A) where
  from : (cs : List ℕ) (k : ℕ) (s : S) (o : Option Control) → (run_from m cs k s o).steps ≡ k + length (rows_from m keep cs s o)
  unfolding run_from rows_from ran
  from [] k s none = omega arith
  from [] k s (some t) = omega arith
  from (i ∷ cs) k s none = omega arith
  from (i ∷ cs) k s (some t) = go (from cs (suc k)) (get_elem? (movable t) i) refl
    where
      -- the outcome of the command that was chosen
      on : ((s' : S) (o : Option Control) → (run_from m cs (suc k) s' o).steps ≡ suc k + length (rows_from m keep cs s' o))
          → (v : Move) (x : Outcome S) → (onward (run_from m cs (suc k)) k s t x).steps ≡ k + length (row_then keep (rows_from m keep cs) i (some v) x)
      on ih (move n ch) (goes_to s' o) = unfold onward row_then in (let e = ih s' o in omega arith)
      on ih (move n ch) (stops r) = unfold onward row_then ran in omega arith

      go : ((s' : S) (o : Option Control) → (run_from m cs (suc k) s' o).steps ≡ suc k + length (rows_from m keep cs s' o))
          → (v : Option Move) → get_elem? (movable t) i ≡ v
          → (onward (run_from m cs (suc k)) k s t (step m s t i)).steps
          ≡ k + length (row_then keep (rows_from m keep cs) i (get_elem? (movable t) i) (step m s t i))
      go ih none e = unfold step plan chosen follow onward row_then ran in rw e (omega arith)
      go ih (some v) e = rw e (on ih v (step m s t i))

  whole : (st : Start S) (root : ℕ) (cs : List ℕ) → (run m st root cs).steps ≡ length (rows m keep st root cs)
  unfolding run rows ran
  whole st root cs = go (fits (some (begins m st root)))
    where
      go : (b : Bool)
          → (cond b (run_from m cs 0 st.store (some (begins m st root))) (ran (Stopped (Full 3)) 0 st.store none)).steps
          ≡ length (cond b (rows_from m keep cs st.store (some (begins m st root))) [])
      go true = let e = from cs 0 st.store (some (begins m st root)) in omega arith
      go false = refl

pub row_count : (img cs : List ℕ) → (run_script img cs).steps ≡ length (rows_of img cs)
unfolding run_script rows_of
row_count img cs = whole (mini_oo (script_of img)) (step_row img) bare (root_of img) cs
