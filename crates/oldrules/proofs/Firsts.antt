-- Which step is the first that stores a fault: one that stores a fault at a moment when none is stored. For a stored fault stays in the
-- list, whatever follows; so no step before stored one. By it a first step is shown by computing: two scripts. Assumes nothing.
use Prim.Native.Nat.{ℕ, suc, ◌<◌, ◌≤◌}
use mathlib.Core.Path.{◌≡◌, refl, sym, ap, subst, subst₂, ◌∙◌}
use mathlib.Core.Bool.{Bool, true, false, cond}
use mathlib.Core.Option.{Option, none, some}
use mathlib.Core.List.{List, [], ◌∷◌, ◌++◌}
use native.Mathlib.Omega.{arith}
use lib.ListN.{length, replicate}
use borrow.Author.Tests.{leb-true}
use Rattle.rules.specs.declared.Chain.TheVariants.{Empty, From}
use Rattle.rules.specs.declared.Value.TheVariants.{Null, Object, Proc}
use Rattle.rules.specs.declared.Stop.TheVariants.{Full}
use Rattle.rules.specs.declared.Next.{Next}
use Rattle.rules.specs.State.{Store, frame, object}
use Rattle.rules.specs.Script.{root_of}
use Rattle.rules.specs.Eval.{ok}
use Rattle.rules.specs.Control.{Control, command, followed, fits, goes_to, room_no, of_control}
use Rattle.rules.specs.Step.{Deed, deed, does, refuses, short_of, with_room, put, remains, judged, chosen, plan, step}
use Rattle.rules.specs.Run.{begins}
use Rattle.rules.proofs.Opens.{opens}
use Rattle.safety.specs.Reaches.{Reaches, stays, goes}
use Rattle.safety.proofs.ReachesStep.{Goes, goes-only}
use Rattle.safety.proofs.Reaches.{Between, reach_split, reach-same}
use Rattle.cases.proofs.CasesMore.{argument_faults}
use Rattle.cases.proofs.CasesLimits.{calling, many_frames}
use Rattle.oldrules.specs.BeforeOrder2.{a_cell, a_field, StoredFault, OldStore, unfaulted, old_deed, OldEffect, noted, old_apply, old_planned, old_machine, old_bare}
use Rattle.oldrules.specs.Compared.{StoresFault, OldStep, FirstStored}
use Rattle.oldrules.proofs.FirstStores.{GoesFirst, goes_first}
use Rattle.oldrules.proofs.OldCases.{old-opens}
use Rattle.oldrules.proofs.OldScripts.{stored_twice}

-- ---- stored faults stay

noted_more : (x : Option StoredFault) (fs : List StoredFault) → length fs ≤ length (noted x fs)
unfolding noted
noted_more none fs = omega arith
noted_more (some f) fs = omega arith

module _ (img : List ℕ) where
  faults-stay : (o : OldStore) (t : Control) (i : ℕ) (p : OldStore) (c : Option Control)
      → step (old_machine img) o t i ≡ goes_to p c
      → length o.faults ≤ length p.faults
  unfolding old_machine old_apply
  faults-stay o t i p c e =
      let g : Goes (old_machine img) o t i p c = goes-only (old_machine img) o t i p c e in
      rw g.store (noted_more g.effect.stores o.faults)

  reached-stay : (p : OldStore) (c : Option Control) (cs : List ℕ) (o : OldStore) (d : Option Control)
      → Reaches (old_machine img) p c cs o d
      → length o.faults ≤ length p.faults
  reached-stay p c _ _ _ stays = omega arith
  reached-stay p c _ _ _ (goes {i = i} {cs = cs} {s = o} {t = t} {s₁ = q} {o = d} e r) =
      let first = faults-stay o t i q d e in
      let later = reached-stay p c cs q d r in
      omega arith

  -- the effect of a deed that stores one has it, where there is room
  effect-has : (t : Control) (i : ℕ) (k : Option ℕ) (e a : OldEffect) (x y : Next)
      → judged (old_machine img) t i (with_room k e x) ≡ does a y
      → e ≡ a
  unfolding judged with_room
  effect-has t i none e a x y h = go (fits (put (old_machine img).cmd_at t i (remains (old_machine img).cmd_at x))) h
    where
      go : (b : Bool) → cond b (does e x) (refuses (Full (room_no of_control))) ≡ does a y → e ≡ a
      go true h = cc
      go false h = let z : ◌≡◌ {A = ℕ} 0 1 = cc in absurd (omega arith)
  effect-has t i (some k) e a x y h = let z : ◌≡◌ {A = ℕ} 0 1 = cc in absurd (omega arith)

  -- a step that stores one, if it is taken: it is in the list
  stored-is-there : (o : OldStore) (t : Control) (i k n : ℕ) (p : OldStore) (c : Option Control)
      → StoresFault img o t i k n
      → step (old_machine img) o t i ≡ goes_to p c
      → length p.faults ≡ suc (length o.faults)
  unfolding plan chosen old_machine old_planned old_apply noted
  stored-is-there o t i k n p c x e = go x.does (rw (x.chosen, x.stores) at g.plans)
    where
      f : StoredFault
      f = record { place = x.place; number = k; arose = n }

      g : Goes (old_machine img) o t i p c
      g = goes-only (old_machine img) o t i p c e

      go : (d : Deed)
          → judged (old_machine img) t i (old_planned o (ok (old_deed d (some f)))) ≡ does g.effect g.leaves
          → length p.faults ≡ suc (length o.faults)
      go (deed a y) h =
          let effect_is : record { effect = a; stores = some f } ≡ g.effect =
          effect-has t i (short_of a o.values) (record { effect = a; stores = some f }) g.effect y g.leaves h in
          ap (λ (q : OldStore). length q.faults) (g.store ∙ ap (λ (w : OldEffect). (old_machine img).apply w o) (sym effect_is))

  -- ---- so no step before stored one

  -- of two first parts of a list the longer one goes on as the list does
  goes_on : (a b : List ℕ) (j : ℕ) (q r : List ℕ) → a ++ (j ∷ q) ≡ b ++ r → length a < length b → (m : List ℕ) × (b ≡ a ++ (j ∷ m))
  goes_on a [] j q r e l = absurd (omega arith)
  goes_on [] (y ∷ b) j q r e l = (b, cc)
  goes_on (x ∷ a) (y ∷ b) j q r e l =
      let tails : a ++ (j ∷ q) ≡ b ++ r = cc in
      let g = goes_on a b j q r tails (omega arith) in
      let rest : b ≡ a ++ (j ∷ g.0) = g.1 in
      (g.0, cc)

  pub first-if : (cs before : List ℕ) (s : Store) (t : Control) (i k n : ℕ)
      → OldStep img cs before (unfaulted s) t i
      → StoresFault img (unfaulted s) t i k n
      → FirstStored img cs before (unfaulted s) t k n
  unfolding unfaulted
  first-if cs before s t i k n x y = record { choice = i; step = x; stores = y; first = none-earlier }
    where
      start : Option Control
      start = some (begins (old_machine img) old_bare (root_of img))

      none-earlier : (earlier : List ℕ) (p : OldStore) (u : Control) (j : ℕ)
          → OldStep img cs earlier p u j
          → length earlier < length before
          → (h m : ℕ)
          → StoresFault img p u j h m
          → ⊥
      none-earlier earlier p u j z l h m stored =
          let rest = goes_on earlier before j z.rest (i ∷ x.rest) (sym z.is ∙ x.is) l in
          let way : Reaches (old_machine img) (unfaulted s) (some t) (earlier ++ (j ∷ rest.0)) old_bare.store start =
          subst (λ (ds : List ℕ). Reaches (old_machine img) (unfaulted s) (some t) ds old_bare.store start) rest.1 x.reached in
          let b : Between (old_machine img) (unfaulted s) (some t) (j ∷ rest.0) earlier old_bare.store start =
          reach_split (old_machine img) earlier (j ∷ rest.0) (unfaulted s) (some t) old_bare.store start way in
          let at = reach-same (old_machine img) earlier old_bare.store start b.store p b.control (some u) b.first z.reached in
          let g : GoesFirst (old_machine img) (unfaulted s) (some t) j rest.0 p u =
          goes_first (old_machine img) (unfaulted s) (some t) j rest.0 p u
          (subst₂ (Reaches (old_machine img) (unfaulted s) (some t) (j ∷ rest.0)) at.0 at.1 b.then) in
          let more = stored-is-there p u j h m g.store g.control stored g.goes_to_lem in
          let kept = reached-stay (unfaulted s) (some t) rest.0 g.store g.control g.then in
          omega (arith, more, kept)

-- ---- two scripts

-- `p(null - 1)`, the third step, stores fault 1 of node 7
pub argument-first : FirstStored argument_faults (replicate 9 0) (0 ∷ 0 ∷ [])
    (unfaulted (record { frames = frame 0 Empty (Proc 2 (From 0)) ∷ []; objects = [] })) (command 8 (From 0)) 1 7
unfolding opens old-opens
argument-first =
    first-if argument_faults (replicate 9 0) (0 ∷ 0 ∷ []) _ _ 0 1 7
    (record { fits = leb-true _ _ refl; rest = replicate 6 0; is = refl; reached = goes refl (goes refl stays) })
    (record { node = 8; chain = From 0; chosen = refl; does = _; place = a_cell 1; stores = refl })

-- `x.f = null - 1`, the third step, stores fault 1 of node 5
pub right-side-first : FirstStored stored_twice (replicate 9 0) (0 ∷ 0 ∷ [])
    (unfaulted (record { frames = frame 0 Empty (Object 0) ∷ []; objects = object (Null ∷ Null ∷ []) ∷ [] }))
    (followed (command 6 (From 0)) 17 (From 0)) 1 5
unfolding opens old-opens
right-side-first =
    first-if stored_twice (replicate 9 0) (0 ∷ 0 ∷ []) _ _ 0 1 5
    (record { fits = leb-true _ _ refl; rest = replicate 6 0; is = refl; reached = goes refl (goes refl stays) })
    (record { node = 6; chain = From 0; chosen = refl; does = _; place = a_field 0 1; stores = refl })

-- taken or not: with 1,024 frames `p(null - 1)` was room 1 (OldCases), and would have stored fault 1 of node 9
pub not-taken-stores : StoresFault calling (unfaulted (many_frames 1023)) (command 10 (From 0)) 0 1 9
unfolding opens old-opens
not-taken-stores = record { node = 10; chain = From 0; chosen = refl; does = _; place = a_cell 1024; stores = refl }
