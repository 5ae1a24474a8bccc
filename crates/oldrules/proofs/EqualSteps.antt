-- A step while no fault is stored, at a moment that is safe: by the rules before order 2 it comes to what it comes to now,
-- and stores no fault; or it stores one, and now it stops with it, room or none, since a fault is asked before room.
-- Assumes nothing.
use Prim.Native.Nat.{ℕ}
use mathlib.Core.Path.{◌≡◌, refl, sym, ◌∙◌}
use mathlib.Core.Bool.{Bool, true, false, cond}
use mathlib.Core.Option.{Option, none, some}
use mathlib.Core.List.{List}
use native.Mathlib.Omega.{arith}
use lib.ListN.{get_elem?}
use Rattle.rules.specs.declared.Chain.{Chain}
use Rattle.rules.specs.declared.Effect.{Effect}
use Rattle.rules.specs.declared.Stop.TheVariants.{Faulted, Full}
use Rattle.rules.specs.State.{Store}
use Rattle.rules.specs.Script.{Script, script_of}
use Rattle.rules.specs.Eval.{Res, ok, fault, stuck, ◌>>=◌}
use Rattle.rules.specs.Control.{Control, fits, Move, move, movable, Outcome, goes_to, stops, room_no, of_control}
use Rattle.rules.specs.Step.{Deed, deed, exec, Plan, does, refuses, short_of, with_room, planned, put, remains, judged, chosen, plan, follow, step, mini_oo}
use Rattle.rules.specs.Run.{machine}
use Rattle.safety.specs.Safe.{Ready, Safe}
use Rattle.safety.proofs.Preserved.{ready_at}
use Rattle.oldrules.specs.BeforeOrder2.{Place, OldStore, unfaulted, OldDeed, old_deed, as_now, old_exec, OldEffect, noted, old_apply, old_planned, old_machine}
use Rattle.oldrules.specs.Compared.{StoresFault}
use Rattle.oldrules.proofs.Unfaulted.{SameOrStores, same, stores, same-or-stores}

-- ---- as the rules have it, in a store without faults

unfoldable pub as_plan : Plan Effect → Plan OldEffect
as_plan (does e x) = does (record { effect = e; stores = none }) x
as_plan (refuses r) = refuses r

unfoldable pub as_outcome : Outcome Store → Outcome OldStore
as_outcome (goes_to s o) = goes_to (unfaulted s) o
as_outcome (stops r) = stops r

planned-same : (s : Store) (r : Res Deed) → old_planned (unfaulted s) (as_now r) ≡ as_plan (planned s r)
unfolding old_planned planned as_now ◌>>=◌ as_plan with_room unfaulted
planned-same s (ok (deed e x)) = go (short_of e s)
  where
    go : (o : Option ℕ) → with_room o (record { effect = e; stores = none }) x ≡ as_plan (with_room o e x)
    go none = refl
    go (some k) = refl
planned-same s (fault k n) = refl
planned-same s stuck = refl

-- what stores no fault is nothing that stores one
now-stores-none : (r : Res Deed) (d : Deed) (p : Place) (k n : ℕ) → as_now r ≡ ok (old_deed d (some (record { place = p; number = k; arose = n }))) → ⊥
unfolding as_now ◌>>=◌
now-stores-none (ok x) d p k n e = let z : ◌≡◌ {A = ℕ} 0 1 = cc in omega arith
now-stores-none (fault j m) d p k n e = let z : ◌≡◌ {A = ℕ} 0 1 = cc in omega arith
now-stores-none stuck d p k n e = let z : ◌≡◌ {A = ℕ} 0 1 = cc in omega arith

module _ (img : List ℕ) where
  abbrev sc : Script
  sc = script_of img

  judged-same : (t : Control) (i : ℕ) (p : Plan Effect) → judged (old_machine img) t i (as_plan p) ≡ as_plan (judged (machine img) t i p)
  unfolding judged as_plan old_machine mini_oo
  judged-same t i (does e x) = go (fits (put sc.cmd_at t i (remains sc.cmd_at x)))
    where
      go : (b : Bool)
          → cond b (does (record { effect = e; stores = none }) x) (refuses (Full (room_no of_control)))
          ≡ as_plan (cond b (does e x) (refuses (Full (room_no of_control))))
      go true = refl
      go false = refl
  judged-same t i (refuses r) = refl

  follow-same : (s : Store) (t : Control) (i : ℕ) (p : Plan Effect)
      → follow (old_machine img) (unfaulted s) t i (as_plan p) ≡ as_outcome (follow (machine img) s t i p)
  unfolding follow as_plan as_outcome old_machine mini_oo old_apply noted unfaulted
  follow-same s t i (does e x) = refl
  follow-same s t i (refuses r) = refl

  -- ---- a step

  pub data StepCompares (s : Store) (t : Control) (i : ℕ) : Type 0 where
    same_step : step (old_machine img) (unfaulted s) t i ≡ as_outcome (step (machine img) s t i)
        → ((k n : ℕ) → StoresFault img (unfaulted s) t i k n → ⊥)
        → StepCompares s t i
    stores-now-stops : (k n : ℕ)
        → StoresFault img (unfaulted s) t i k n
        → step (machine img) s t i ≡ stops (Faulted k n)
        → StepCompares s t i

  -- choice i picks the command at node n, in the chain ch
  module _ (s : Store) (t : Control) (i n : ℕ) (ch : Chain) (picks : get_elem? (movable t) i ≡ some (move n ch)) where
    abbrev before : Res OldDeed
    before = old_exec sc (unfaulted s) ch (sc.cmd_at n)

    abbrev now : Res Deed
    now = exec sc s ch (sc.cmd_at n)

    same_then : before ≡ as_now now → step (old_machine img) (unfaulted s) t i ≡ as_outcome (step (machine img) s t i)
    unfolding step plan chosen old_machine mini_oo
    same_then e =
        rw (picks, e, planned-same s now, judged-same t i (planned s now))
        (follow-same s t i (judged (machine img) t i (planned s now)))

    none-stored : before ≡ as_now now → (k m : ℕ) → StoresFault img (unfaulted s) t i k m → ⊥
    none-stored e k m x =
        let same-pick : some (move n ch) ≡ some (move x.node x.chain) = sym picks ∙ x.chosen in
        let node-is : n ≡ x.node = cc in
        let chain-is : ch ≡ x.chain = cc in
        now-stores-none now x.does x.place k m (sym e ∙ rw (node-is, chain-is) x.stores)

    fault-stops : (k m : ℕ) → now ≡ fault k m → step (machine img) s t i ≡ stops (Faulted k m)
    unfolding step plan chosen judged follow planned mini_oo
    fault-stops k m e = rw (picks, e)

    pub command-compares : SameOrStores before now → StepCompares s t i
    command-compares (same e) = same_step (same_then e) (none-stored e)
    command-compares (stores d p k m e f) =
        stores-now-stops k m (record { node = n; chain = ch; chosen = picks; does = d; place = p; stores = e }) (fault-stops k m f)

  pub step-compares : (s : Store) (t : Control) → Safe sc s (some t) → (i : ℕ) → StepCompares s t i
  unfolding step plan chosen as_outcome follow
  step-compares s t safe i = go (get_elem? (movable t) i) refl
    where
      go : (o : Option Move) → get_elem? (movable t) i ≡ o → StepCompares s t i
      go none e = same_step (rw e) (λ k n x. let y = x.chosen in let z : ◌≡◌ {A = ℕ} 0 1 = cc in omega arith)
      go (some (move n ch)) e =
          let r : Ready sc s n ch = ready_at sc s t safe i n ch e in
          command-compares s t i n ch e
          (same-or-stores sc s safe.store ch r.seen.names r.seen.chain (sc.cmd_at n) r.seen.scoped)
