-- Runs by the rules before order 2 and by the rules, from a moment that is safe and with no fault stored: equal, and no step of
-- the old one stores a fault; or there is a first step that stores one, up to it the old run goes as the new one, and
-- there the new one stops with that fault. By induction over the choices. Assumes nothing.
use Prim.Native.Nat.{ℕ, suc, ◌+◌, ◌<◌}
use mathlib.Core.Path.{◌≡◌, refl, sym, ap, subst, subst₂, ◌∙◌}
use mathlib.Core.Option.{Option, none, some}
use mathlib.Core.List.{List, [], ◌∷◌, ◌++◌}
use native.Mathlib.Nat.{add-zero}
use native.Mathlib.Omega.{arith}
use lib.ListN.{length}
use Rattle.rules.specs.declared.Stop.{Stop}
use Rattle.rules.specs.declared.Stop.TheVariants.{Faulted}
use Rattle.rules.specs.declared.End.TheVariants.{Stopped}
use Rattle.rules.specs.State.{Store}
use Rattle.rules.specs.Script.{Script, script_of}
use Rattle.rules.specs.Control.{Control, Outcome, goes_to, stops}
use Rattle.rules.specs.Step.{Machine, step}
use Rattle.rules.specs.Run.{Ran, ran, run_from, machine}
use Rattle.rules.proofs.Runs.{run-done, run-used, run-moves, run-stops}
use Rattle.safety.specs.Safe.{Safe}
use Rattle.safety.specs.Fits.{OutcomeFits}
use Rattle.safety.specs.Reaches.{Reaches, stays, goes}
use Rattle.safety.proofs.Reaches.{reach-same}
use Rattle.safety.proofs.Preserved.{step_keeps}
use Rattle.oldrules.specs.BeforeOrder2.{OldStore, unfaulted, old_machine}
use Rattle.oldrules.specs.Compared.{StoresFault}
use Rattle.oldrules.proofs.EqualSteps.{as_outcome, StepCompares, same_step, stores-now-stops, step-compares}

-- ---- the first of the choices, for any machine

module _ {S E : Type 0} (m : Machine S E) where
  -- from the store s with the control o, the choices `before` lead to the store s' with the control t, and choice i is next
  pub record NextAt (cs before : List ℕ) (s' : S) (t : Control) (i : ℕ) (s : S) (o : Option Control) : Type 0 where
    pub rest : List ℕ
    pub is : cs ≡ before ++ (i ∷ rest)
    pub reached : Reaches m s' (some t) before s o

  -- of those that follow, a first step leads there
  pub record GoesFirst (s' : S) (o' : Option Control) (i : ℕ) (cs : List ℕ) (s : S) (t : Control) : Type 0 where
    pub store : S
    pub control : Option Control
    pub goes_to_lem : step m s t i ≡ goes_to store control
    pub then : Reaches m s' o' cs store control

  pub goes_first : (s' : S) (o' : Option Control) (i : ℕ) (cs : List ℕ) (s : S) (t : Control)
      → Reaches m s' o' (i ∷ cs) s (some t)
      → GoesFirst s' o' i cs s t
  goes_first s' o' _ _ _ _ (goes {s₁ = s₁} {o = o} e r) = record { store = s₁; control = o; goes_to_lem = e; then = r }

  -- when nothing is left in control, no choice is next
  done-stays : (s' : S) (o' : Option Control) (cs : List ℕ) (s : S) (o : Option Control) → Reaches m s' o' cs s o → o ≡ none → o' ≡ none
  done-stays s' o' _ _ _ stays e = e
  done-stays s' o' _ _ _ (goes a r) e = let z : ◌≡◌ {A = ℕ} 0 1 = cc in absurd (omega arith)

  none-next : (cs before : List ℕ) (s' : S) (t : Control) (i : ℕ) (s : S) → NextAt cs before s' t i s none → ⊥
  none-next cs before s' t i s x =
      let e : some t ≡ none = done-stays s' (some t) before s none x.reached refl in
      let z : ◌≡◌ {A = ℕ} 0 1 = cc in
      omega arith

-- ---- both machines

-- as the rules have it, in a store without faults
unfoldable pub as_ran : Ran Store → Ran OldStore
as_ran r = ran r.end r.steps (unfaulted r.store) r.control

module _ (img : List ℕ) where
  abbrev sc : Script
  sc = script_of img

  -- of the first b steps none stores a fault
  abbrev pub NoneBefore : ℕ → List ℕ → OldStore → Option Control → Type 0
  NoneBefore b cs o c =
      (before : List ℕ) (p : OldStore) (t : Control) (i : ℕ)
      → NextAt (old_machine img) cs before p t i o c → length before < b
      → (k n : ℕ) → StoresFault img p t i k n → ⊥

  -- the first step stores none, and none of those after it
  none_before : (b i : ℕ) (cs : List ℕ) (o : OldStore) (t : Control)
      → ((k n : ℕ) → StoresFault img o t i k n → ⊥)
      → ((p : OldStore) (c : Option Control) → step (old_machine img) o t i ≡ goes_to p c → NoneBefore b cs p c)
      → NoneBefore (suc b) (i ∷ cs) o (some t)
  none_before b i cs o t now later [] p u j x l k n stored =
      let at : (p ≡ o) × (some u ≡ some t) = reach-same (old_machine img) [] o (some t) p o (some u) (some t) x.reached stays in
      let is : i ∷ cs ≡ j ∷ x.rest = x.is in
      let choice : j ≡ i = cc in
      let control : u ≡ t = cc in
      now k n (rw (at.0, control, choice) at stored)
  none_before b i cs o t now later (j ∷ before) p u h x l k n stored =
      let is : i ∷ cs ≡ j ∷ (before ++ (h ∷ x.rest)) = x.is in
      let choice : j ≡ i = cc in
      let g : GoesFirst (old_machine img) p (some u) j before o t = goes_first (old_machine img) p (some u) j before o t x.reached in
      later g.store g.control (subst (λ (c : ℕ). step (old_machine img) o t c ≡ goes_to g.store g.control) choice g.goes_to_lem) before p u h
      (record { rest = x.rest; is = cc; reached = g.then }) (omega arith) k n stored

  -- the first step that stores a fault, number k, which arose at node n
  pub record FirstAt (cs before : List ℕ) (s' : Store) (t : Control) (k n : ℕ) (s : Store) (o : Option Control) : Type 0 where
    pub choice : ℕ
    pub next : NextAt (old_machine img) cs before (unfaulted s') t choice (unfaulted s) o
    pub stored : StoresFault img (unfaulted s') t choice k n
    pub first : NoneBefore (length before) cs (unfaulted s) o

  -- c steps counted before
  pub data RunCompares (cs : List ℕ) (c : ℕ) (s : Store) (o : Option Control) : Type 0 where
    same-run : run_from (old_machine img) cs c (unfaulted s) o ≡ as_ran (run_from (machine img) cs c s o)
        → NoneBefore (length cs) cs (unfaulted s) o
        → RunCompares cs c s o
    stops-there : (before : List ℕ) (s' : Store) (t : Control) (k n : ℕ)
        → FirstAt cs before s' t k n s o
        → run_from (machine img) cs c s o ≡ ran (Stopped (Faulted k n)) (c + length before) s' (some t)
        → RunCompares cs c s o

  run-done-same : (cs : List ℕ) (c : ℕ) (s : Store) → RunCompares cs c s none
  unfolding as_ran ran
  run-done-same cs c s =
      same-run (rw (run-done (old_machine img) cs c (unfaulted s), run-done (machine img) cs c s))
      (λ before p t i x l k n stored. none-next (old_machine img) cs before p t i (unfaulted s) x)

  module _ (i : ℕ) (cs : List ℕ) (c : ℕ) (s : Store) (t : Control) where
    then-none : (s₁ : Store) (o : Option Control)
        → step (old_machine img) (unfaulted s) t i ≡ goes_to (unfaulted s₁) o
        → (b : ℕ)
        → NoneBefore b cs (unfaulted s₁) o
        → (p : OldStore) (d : Option Control) → step (old_machine img) (unfaulted s) t i ≡ goes_to p d → NoneBefore b cs p d
    then-none s₁ o e b h p d f =
        let both-are : goes_to (unfaulted s₁) o ≡ goes_to p d = sym e ∙ f in
        let store : unfaulted s₁ ≡ p = cc in
        let control : o ≡ d = cc in
        subst₂ (NoneBefore b cs) store control h

    abbrev FirstStoresNone : Type 0
    FirstStoresNone = (k n : ℕ) → StoresFault img (unfaulted s) t i k n → ⊥

    -- the first step goes on as it did
    goes_same : (s₁ : Store) (o : Option Control)
        → step (old_machine img) (unfaulted s) t i ≡ goes_to (unfaulted s₁) o
        → step (machine img) s t i ≡ goes_to s₁ o
        → FirstStoresNone
        → RunCompares cs (suc c) s₁ o
        → RunCompares (i ∷ cs) c s (some t)
    goes_same s₁ o e f now (same-run g h) =
        same-run
        (run-moves (old_machine img) i cs c (unfaulted s) t (unfaulted s₁) o e ∙ g ∙ ap as_ran (sym (run-moves (machine img) i cs c s t s₁ o f)))
        (none_before (length cs) i cs (unfaulted s) t now (then-none s₁ o e (length cs) h))
    goes_same s₁ o e f now (stops-there before s' u k n x g) =
        let counted : suc c + length before ≡ c + suc (length before) = omega arith in
        stops-there (i ∷ before) s' u k n
        (
        record {
          choice = x.choice;
          next = record { rest = x.next.rest; is = ap (λ l. i ∷ l) x.next.is; reached = goes e x.next.reached };
          stored = x.stored;
          first = none_before (length before) i cs (unfaulted s) t now (then-none s₁ o e (length before) x.first);
        }
        )
        (run-moves (machine img) i cs c s t s₁ o f ∙ g ∙ rw counted)

    -- it stopped as it does
    stops_same : (r : Stop)
        → step (old_machine img) (unfaulted s) t i ≡ stops r
        → step (machine img) s t i ≡ stops r
        → FirstStoresNone
        → RunCompares (i ∷ cs) c s (some t)
    unfolding as_ran ran
    stops_same r e f now =
        same-run
        (rw (run-stops (old_machine img) i cs c (unfaulted s) t r e, run-stops (machine img) i cs c s t r f))
        (none_before (length cs) i cs (unfaulted s) t now (λ p d h. let z : ◌≡◌ {A = ℕ} 0 1 = cc in absurd (omega arith)))

    -- it stores a fault, which stops now
    stores-here : (k n : ℕ) → StoresFault img (unfaulted s) t i k n → step (machine img) s t i ≡ stops (Faulted k n) → RunCompares (i ∷ cs) c s (some t)
    stores-here k n stored e =
        stops-there [] s t k n
        (
        record {
          choice = i;
          next = record { rest = cs; is = refl; reached = stays };
          stored = stored;
          first = λ before p u j x l. absurd (omega arith);
        }
        )
        (run-stops (machine img) i cs c s t (Faulted k n) e ∙ rw (add-zero c))

    begins-so : StepCompares img s t i
        → ((s₁ : Store) (o : Option Control) → step (machine img) s t i ≡ goes_to s₁ o → RunCompares cs (suc c) s₁ o)
        → RunCompares (i ∷ cs) c s (some t)
    unfolding as_outcome
    begins-so (same_step e now) on = go (step (machine img) s t i) refl
      where
        go : (x : Outcome Store) → step (machine img) s t i ≡ x → RunCompares (i ∷ cs) c s (some t)
        go (goes_to s₁ o) f = goes_same s₁ o (e ∙ ap as_outcome f) f now (on s₁ o f)
        go (stops r) f = stops_same r (e ∙ ap as_outcome f) f now
    begins-so (stores-now-stops k n stored e) on = stores-here k n stored e

  pub run-compares : (cs : List ℕ) (c : ℕ) (s : Store) (o : Option Control) → Safe sc s o → RunCompares cs c s o
  unfolding as_ran ran
  run-compares [] c s none safe = run-done-same [] c s
  run-compares [] c s (some t) safe =
      same-run
      (rw (run-used (old_machine img) c (unfaulted s) t, run-used (machine img) c s t))
      (λ before p u i x l. absurd (omega arith))
  run-compares (i ∷ cs) c s none safe = run-done-same (i ∷ cs) c s
  run-compares (i ∷ cs) c s (some t) safe =
      begins-so i cs c s t (step-compares img s t safe i) λ s₁ o f.
      run-compares cs (suc c) s₁ o (subst (OutcomeFits sc) f (step_keeps sc s t safe i))
