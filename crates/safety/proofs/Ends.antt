-- How a run ends, both ways, for any machine: a run's end is decided by a moment that it reaches (`ends-only`), and
-- such a moment decides the whole answer, with the count of steps (`done-if`, `used-up-if`, `stops-if`).
-- Assumes nothing.
use Prim.Native.Nat.{ℕ, suc, ◌+◌}
use mathlib.Core.Path.{◌≡◌, refl, subst}
use mathlib.Core.Option.{Option, none, some}
use mathlib.Core.List.{List, [], ◌∷◌, append-nil}
use native.Mathlib.Omega.{arith}
use lib.ListN.{length}
use Rattle.rules.specs.Control.{Control, Outcome, goes_to, stops}
use Rattle.rules.specs.declared.Stop.{Stop}
use Rattle.rules.specs.declared.End.{End}
use Rattle.rules.specs.declared.End.TheVariants.{Done, UsedUp, Stopped}
use Rattle.rules.specs.Step.{Machine, step}
use Rattle.rules.specs.Run.{ran, onward, run_from}
use Rattle.safety.specs.Reaches.{stays, goes, DoneAt, UsedUpAt, StoppedAt, EndsSo, Left}
use Rattle.safety.proofs.Reaches.{run-reaches}

module _ {S E : Type 0} (m : Machine S E) where
  -- an end after a first step
  ends-after : (i : ℕ) (cs : List ℕ) (s s₁ : S) (t : Control) (o : Option Control)
      → step m s t i ≡ goes_to s₁ o
      → (e : End)
      → EndsSo m cs s₁ o e
      → EndsSo m (i ∷ cs) s (some t) e
  ends-after i cs s s₁ t o p Done x =
      record {
        before = i ∷ x.before;
        rest = x.rest;
        is = rw x.is;
        store = x.store;
        reached = goes p x.reached;
      }
  ends-after i cs s s₁ t o p UsedUp x =
      record { store = x.store; control = x.control; reached = goes p x.reached }
  ends-after i cs s s₁ t o p (Stopped r) x =
      record {
        before = i ∷ x.before;
        choice = x.choice;
        rest = x.rest;
        is = rw x.is;
        store = x.store;
        control = x.control;
        reached = goes p x.reached;
        refused = x.refused;
      }

  -- whatever the end of a run is, a moment of it decides it
  pub ends-only : (cs : List ℕ) (k : ℕ) (s : S) (o : Option Control) → EndsSo m cs s o (run_from m cs k s o).end
  unfolding run_from onward ran
  ends-only [] k s none = record { before = []; rest = []; is = refl; store = s; reached = stays }
  ends-only [] k s (some t) = record { store = s; control = t; reached = stays }
  ends-only (i ∷ cs) k s none = record { before = []; rest = i ∷ cs; is = refl; store = s; reached = stays }
  ends-only (i ∷ cs) k s (some t) = go (step m s t i) refl (λ s₁ o. ends-only cs (suc k) s₁ o)
    where
      go : (x : Outcome S)
          → step m s t i ≡ x
          → ((s₁ : S) (o : Option Control) → EndsSo m cs s₁ o (run_from m cs (suc k) s₁ o).end)
          → EndsSo m (i ∷ cs) s (some t) (onward (run_from m cs (suc k)) k s t x).end
      go (goes_to s₁ o) e f = ends-after i cs s s₁ t o e (run_from m cs (suc k) s₁ o).end (f s₁ o)
      go (stops r) e f =
          record { before = []; choice = i; rest = cs; is = refl; store = s; control = t; reached = stays; refused = e }

  pub done-only : (cs : List ℕ) (k : ℕ) (s : S) (o : Option Control)
      → (run_from m cs k s o).end ≡ Done
      → DoneAt m cs s o
  done-only cs k s o e = subst (EndsSo m cs s o) e (ends-only cs k s o)

  pub used-up-only : (cs : List ℕ) (k : ℕ) (s : S) (o : Option Control)
      → (run_from m cs k s o).end ≡ UsedUp
      → UsedUpAt m cs s o
  used-up-only cs k s o e = subst (EndsSo m cs s o) e (ends-only cs k s o)

  pub stops-only : (cs : List ℕ) (k : ℕ) (s : S) (o : Option Control) (r : Stop)
      → (run_from m cs k s o).end ≡ Stopped r
      → StoppedAt m cs s o r
  stops-only cs k s o r e = subst (EndsSo m cs s o) e (ends-only cs k s o)

  pub done-if : (cs : List ℕ) (k : ℕ) (s : S) (o : Option Control) (x : DoneAt m cs s o)
      → run_from m cs k s o ≡ ran Done (k + length x.before) x.store none
  unfolding run_from
  done-if cs k s o x =
      rw (x.is, run-reaches m x.store none x.before s o x.reached x.rest k) (done x.rest (k + length x.before))
    where
      done : (l : List ℕ) (j : ℕ) → run_from m l j x.store none ≡ ran Done j x.store none
      done [] j = refl
      done (i ∷ l) j = refl

  pub used-up-if : (cs : List ℕ) (k : ℕ) (s : S) (o : Option Control) (x : UsedUpAt m cs s o)
      → run_from m cs k s o ≡ ran UsedUp (k + length cs) x.store (some x.control)
  unfolding run_from
  used-up-if cs k s o x = rw append-nil at (run-reaches m x.store (some x.control) cs s o x.reached [] k)

  pub stops-if : (cs : List ℕ) (k : ℕ) (s : S) (o : Option Control) (r : Stop) (x : StoppedAt m cs s o r)
      → run_from m cs k s o ≡ ran (Stopped r) (k + length x.before) x.store (some x.control)
  unfolding run_from onward
  stops-if cs k s o r x =
      rw (x.is, run-reaches m x.store (some x.control) x.before s o x.reached (x.choice ∷ x.rest) k)
      (stopped (k + length x.before))
    where
      stopped : (j : ℕ)
          → run_from m (x.choice ∷ x.rest) j x.store (some x.control)
          ≡ ran (Stopped r) j x.store (some x.control)
      stopped j = rw x.refused

  -- ---- what a run leaves is one of its moments, after as many steps as choices used

  pub run-leaves : (cs : List ℕ) (k : ℕ) (s : S) (o : Option Control) → Left m cs k s o (run_from m cs k s o)
  unfolding run_from onward ran
  run-leaves [] k s none = record { used = []; rest = []; is = refl; reached = stays; counts = omega arith }
  run-leaves [] k s (some t) = record { used = []; rest = []; is = refl; reached = stays; counts = omega arith }
  run-leaves (i ∷ cs) k s none = record { used = []; rest = i ∷ cs; is = refl; reached = stays; counts = omega arith }
  run-leaves (i ∷ cs) k s (some t) = go (step m s t i) refl (λ s₁ o. run-leaves cs (suc k) s₁ o)
    where
      go : (x : Outcome S)
          → step m s t i ≡ x
          → ((s₁ : S) (o : Option Control) → Left m cs (suc k) s₁ o (run_from m cs (suc k) s₁ o))
          → Left m (i ∷ cs) k s (some t) (onward (run_from m cs (suc k)) k s t x)
      go (goes_to s₁ o) e f =
          let y : Left m cs (suc k) s₁ o (run_from m cs (suc k) s₁ o) = f s₁ o in
          record {
            used = i ∷ y.used;
            rest = y.rest;
            is = rw y.is;
            reached = goes e y.reached;
            counts = omega (arith, y.counts);
          }
      go (stops r) e f = record { used = []; rest = i ∷ cs; is = refl; reached = stays; counts = omega arith }
