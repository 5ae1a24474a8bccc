-- Order 2: "show equal runs wherever the old one stores no fault". For every accepted script and every list of choices: where no
-- step of the old run, taken or not, stores a fault, the runs are the same; else the new run stops at the first such step,
-- with that fault, its number and the node where it arose. One of the two it is, and the first such step is one.
-- Nothing is assumed but that the script is accepted and is made of bytes.
use Prim.Native.Nat.{ℕ, ◌≤◌}
use mathlib.Core.Path.{◌≡◌, refl, sym, ap, ◌∙◌}
use mathlib.Core.Bool.{Bool, true, false}
use mathlib.Core.Logic.{◌⊎◌, inl, inr}
use mathlib.Core.Option.{some}
use mathlib.Core.List.{List, [], ◌∷◌, ◌++◌}
use native.Mathlib.Nat.{zero-add}
use native.Mathlib.Omega.{arith}
use lib.ListN.{length, length-append}
use borrow.Author.Tests.{leb-true, leb-false}
use Rattle.laws.specs.Lists.{three}
use Rattle.rules.specs.declared.Stop.TheVariants.{Faulted}
use Rattle.rules.specs.declared.End.TheVariants.{Stopped}
use Rattle.rules.specs.declared.Verdict.TheVariants.{Accepted}
use Rattle.rules.specs.Refusals.{check}
use Rattle.rules.specs.Published.{Bytes}
use Rattle.rules.specs.State.{Store, empty, most_parts}
use Rattle.rules.specs.Script.{script_of, root_of}
use Rattle.rules.specs.Control.{Control, parts, fits, move}
use Rattle.rules.specs.Step.{mini_oo}
use Rattle.rules.specs.Run.{Ran, ran, run, bare, begins, start, run_script}
use Rattle.safety.specs.Safe.{FitCmd}
use Rattle.safety.proofs.Reaches.{reach-same}
use Rattle.safety.proofs.Preserved.{bare-given, start-safe}
use Rattle.safety.proofs.Accepted.{accepted-fits}
use Rattle.oldrules.specs.BeforeOrder2.{StoredFault, OldStore, unfaulted, old_machine, old_run}
use Rattle.oldrules.specs.Compared.{StoresFault, OldStep, StoresNone, FirstStored, SameRun}
use Rattle.oldrules.proofs.FirstStores.{NextAt, as_ran, RunCompares, same-run, stops-there, run-compares}

-- ---- two first steps are the same

-- two lists that begin alike, as long as their first parts
same_parts : (a b : List ℕ) (i j : ℕ) (r q : List ℕ) → a ++ (i ∷ r) ≡ b ++ (j ∷ q) → length a ≡ length b → (a ≡ b) × (i ≡ j)
same_parts [] [] i j r q e l = (refl, cc)
same_parts [] (y ∷ b) i j r q e l = absurd (omega arith)
same_parts (x ∷ a) [] i j r q e l = absurd (omega arith)
same_parts (x ∷ a) (y ∷ b) i j r q e l =
    let tails : a ++ (i ∷ r) ≡ b ++ (j ∷ q) = cc in
    let heads : x ≡ y = cc in
    let p = same_parts a b i j r q tails (omega arith) in
    let lists : a ≡ b = p.0 in
    (cc, p.1)

module _ (img : List ℕ) where
  -- a step stores one fault
  same-fault : (o : OldStore) (t : Control) (i k n j m : ℕ) → StoresFault img o t i k n → StoresFault img o t i j m → (k ≡ j) × (n ≡ m)
  same-fault o t i k n j m a b =
      let same-pick : some (move a.node a.chain) ≡ some (move b.node b.chain) = sym a.chosen ∙ b.chosen in
      let node-is : a.node ≡ b.node = cc in
      let chain-is : a.chain ≡ b.chain = cc in
      let both-are = sym (rw (node-is, chain-is) at a.stores) ∙ b.stores in
      let fault-is : ◌≡◌ {A = StoredFault} (record { place = a.place; number = k; arose = n }) (record { place = b.place; number = j; arose = m }) = cc in
      (ap (λ (f : StoredFault). f.number) fault-is, ap (λ (f : StoredFault). f.arose) fault-is)

  -- the same choices before, the same moment, the same fault
  pub record SameFirst (before before' : List ℕ) (o o' : OldStore) (t t' : Control) (k k' n n' : ℕ) : Type 0 where
    pub choices : before ≡ before'
    pub store : o ≡ o'
    pub control : t ≡ t'
    pub number : k ≡ k'
    pub arose : n ≡ n'

  module _ (cs before before' : List ℕ) (o o' : OldStore) (t t' : Control) (k k' n n' : ℕ) where
    pub same_first : FirstStored img cs before o t k n → FirstStored img cs before' o' t' k' n' → SameFirst before before' o o' t t' k k' n n'
    same_first a b =
        let long : length before ≡ length before' =
        three (length before) (length before')
        (λ l. absurd (b.first before o t a.choice a.step l k n a.stores))
        (λ e. e)
        (λ l. absurd (a.first before' o' t' b.choice b.step l k' n' b.stores)) in
        let parts_are = same_parts before before' a.choice b.choice a.step.rest b.step.rest (sym a.step.is ∙ b.step.is) long in
        let moment = reach-same (old_machine img) before' (unfaulted empty) _ o o' (some t) (some t') (rw parts_are.0 at a.step.reached) b.step.reached in
        let control-is : t ≡ t' = cc in
        let fault-is = same-fault o' t' b.choice k n k' n' (rw (parts_are.1, moment.0, control-is) at a.stores) b.stores in
        record {
          choices = parts_are.0;
          store = moment.0;
          control = control-is;
          number = fault-is.0;
          arose = fault-is.1;
        }

-- ---- the runs of a script

module _ (img cs : List ℕ) where
  -- both, from the start
  pub data Compares : Type 0 where
    equal : old_run img cs ≡ as_ran (run_script img cs) → StoresNone img cs → Compares
    first_stops : (before : List ℕ) (s : Store) (t : Control) (k n : ℕ)
        → FirstStored img cs before (unfaulted s) t k n
        → run_script img cs ≡ ran (Stopped (Faulted k n)) (length before) s (some t)
        → Compares

  step-next : (before : List ℕ) (o : OldStore) (t : Control) (i : ℕ)
      → OldStep img cs before o t i
      → NextAt (old_machine img) cs before o t i (unfaulted empty) (some (start img))
  unfolding begins old_machine mini_oo
  step-next before o t i x = record { rest = x.rest; is = x.is; reached = x.reached }

  -- where the start has room
  from_start : parts (start img) ≤ most_parts → fits (some (start img)) ≡ true → RunCompares img cs 0 empty (some (start img)) → Compares
  unfolding old_run run_script run begins old_machine mini_oo
  from_start few e (same-run f none-stored) =
      equal (rw e f)
      (λ before o t i x. none-stored before o t i (step-next before o t i x) (let l = ap length x.is ∙ length-append before (i ∷ x.rest) in omega arith))
  from_start few e (stops-there before s t k n x f) =
      first_stops before s t k n
      (
      record {
        choice = x.choice;
        step = record { fits = few; rest = x.next.rest; is = x.next.is; reached = x.next.reached };
        stores = x.stored;
        first = λ earlier p u i y l. x.first earlier p u i (step-next earlier p u i y) l;
      }
      )
      (rw e (rw zero-add at f))

  -- where it has none, there is no step
  too_large : fits (some (start img)) ≡ false → Compares
  unfolding old_run run_script run begins old_machine mini_oo fits as_ran ran
  too_large e =
      equal (rw e)
      (λ before o t i x. let few = x.fits in let l = leb-false (parts (start img)) most_parts e in absurd (omega arith))

  compares : FitCmd (script_of img) [] ((script_of img).cmd_at (root_of img)) → Compares
  unfolding fits
  compares fit = go (fits (some (start img))) refl
    where
      go : (b : Bool) → fits (some (start img)) ≡ b → Compares
      go true e =
          let few : parts (start img) ≤ most_parts = leb-true (parts (start img)) most_parts e in
          from_start few e
          (run-compares img cs 0 empty (some (start img)) (start-safe (script_of img) bare (bare-given (script_of img)) (root_of img) fit few))
      go false e = too_large e

as-old : (r : Ran Store) (q : Ran OldStore) → q ≡ as_ran r → SameRun q r
unfolding as_ran ran unfaulted
as-old r q e = rw e (record { end = refl; steps = refl; frames = refl; objects = refl; control = refl; no-fault = refl })

-- and nothing is left out of it
pub same-in-all : (r : Ran Store) (q : Ran OldStore) → SameRun q r → q ≡ as_ran r
unfolding as_ran ran unfaulted
same-in-all r q x = rw (sym x.end, sym x.steps, sym x.frames, sym x.objects, sym x.control, sym x.no-fault)

module _ (words : ℕ) (img : List ℕ) (are-bytes : Bytes img) (accepted : check [] words img ≡ Accepted) (cs : List ℕ) where
  both_runs : Compares img cs
  both_runs = compares img cs (accepted-fits [] words img are-bytes accepted)

  -- "Equal runs wherever the old one stores no fault."
  pub equal-runs : StoresNone img cs → SameRun (old_run img cs) (run_script img cs)
  equal-runs none-stored = go both_runs
    where
      go : Compares img cs → SameRun (old_run img cs) (run_script img cs)
      go (equal e h) = as-old (run_script img cs) (old_run img cs) e
      go (first_stops before s t k n x e) = absurd (none-stored before (unfaulted s) t x.choice x.step k n x.stores)

  -- Else the new run stops at the first such step, taken or not, with that fault.
  pub stops-at-the-first : (before : List ℕ) (o : OldStore) (t : Control) (k n : ℕ)
      → FirstStored img cs before o t k n
      → run_script img cs ≡ ran (Stopped (Faulted k n)) (length before) o.values (some t)
  unfolding unfaulted
  stops-at-the-first before o t k n x = go both_runs
    where
      go : Compares img cs → run_script img cs ≡ ran (Stopped (Faulted k n)) (length before) o.values (some t)
      go (equal e h) = absurd (h before o t x.choice x.step k n x.stores)
      go (first_stops before' s t' k' n' y e) =
          let z = same_first img cs before' before (unfaulted s) o t' t k' k n' n y x in
          let store_is : s ≡ o.values = ap (λ (p : OldStore). p.values) z.store in
          e ∙ rw (z.number, z.arose, z.choices, z.control, store_is)

  -- .. and until then no fault was stored
  pub none-stored-before : (before : List ℕ) (o : OldStore) (t : Control) (k n : ℕ) → FirstStored img cs before o t k n → o.faults ≡ []
  unfolding unfaulted
  none-stored-before before o t k n x = go both_runs
    where
      go : Compares img cs → o.faults ≡ []
      go (equal e h) = absurd (h before o t x.choice x.step k n x.stores)
      go (first_stops before' s t' k' n' y e) =
          let z = same_first img cs before' before (unfaulted s) o t' t k' k n' n y x in
          ap (λ (p : OldStore). p.faults) (sym z.store)

  -- One of the two, for every list of choices.
  pub none-or-first : StoresNone img cs ⊎ ((before : List ℕ) × (o : OldStore) × (t : Control) × (k : ℕ) × (n : ℕ) × FirstStored img cs before o t k n)
  none-or-first = go both_runs
    where
      go : Compares img cs → StoresNone img cs ⊎ ((before : List ℕ) × (o : OldStore) × (t : Control) × (k : ℕ) × (n : ℕ) × FirstStored img cs before o t k n)
      go (equal e h) = inl h
      go (first_stops before s t k n x e) = inr (before, unfaulted s, t, k, n, x)

  -- So a run that doesn't end with a fault is as it was.
  pub without-fault-equal : ((k n : ℕ) → (run_script img cs).end ≡ Stopped (Faulted k n) → ⊥) → SameRun (old_run img cs) (run_script img cs)
  unfolding ran
  without-fault-equal no-fault = go both_runs
    where
      go : Compares img cs → SameRun (old_run img cs) (run_script img cs)
      go (equal e h) = as-old (run_script img cs) (old_run img cs) e
      go (first_stops before s t k n x e) = absurd (no-fault k n (ap (λ (r : Ran Store). r.end) e))
