-- The atom sentence for this language: a step enters a block exactly when an atom moves, and from then on only that
-- block moves until it is left. Assumes nothing.
use Prim.Native.Nat.{ℕ}
use mathlib.Core.Path.{◌≡◌, refl, sym, ◌∙◌}
use mathlib.Core.Bool.{Bool, true, false, cond}
use mathlib.Core.Option.{Option, some}
use lib.ListN.{get_elem?}
use Rattle.rules.specs.Syntax.{Cmd, no_cmd, var, call, malloc, assign, assign_field, skip, seq, while, if, par, atom, cmd_no}
use Rattle.rules.specs.declared.Chain.{Chain}
use Rattle.rules.specs.declared.Value.{Value}
use Rattle.rules.specs.declared.Next.{Next}
use Rattle.rules.specs.declared.Next.TheVariants.{Ended, GoesOn, Repeats, Enters}
use Rattle.rules.specs.declared.Effect.TheVariants.{Keep}
use Rattle.rules.specs.State.{Store}
use Rattle.rules.specs.Script.{Script, Procedure, formal}
use Rattle.rules.specs.Eval.{Res, ok, fault, stuck, ◌>>=◌, Closure, closure}
use Rattle.rules.specs.Control.{Control, move, movable, goes_to}
use Rattle.safety.specs.Safe.{Nested}
use Rattle.rules.specs.Step.{step, Deed, deed, enter, calling, into_field, exec_by, exec, mini_oo}
use Rattle.safety.specs.Atoms.{Sealed, AtomMoves}
use Rattle.safety.proofs.Plans.{RuleDoes}
use Rattle.safety.proofs.ReachesStep.{Goes, goes-only}
use Rattle.safety.proofs.Rooms.{made-only}
use Rattle.safety.proofs.Atoms.{EntersBlock, only-that-block-moves}

-- what is given, if something is
abbrev pub Gives : {A : Type 0} → (A → Type 0) → Res A → Type 0
Gives P (ok a) = P a
Gives P (fault k n) = Unit {0}
Gives P stuck = Unit {0}

-- a part gives something first, which is known then
pub gives-known : {A B : Type 0} (P : B → Type 0) (r : Res A) (f : A → Res B) → ((a : A) → r ≡ ok a → Gives P (f a)) → Gives P (r >>= f)
unfolding ◌>>=◌
gives-known P (ok a) f g = g a refl
gives-known P (fault k n) f g = tt
gives-known P stuck f g = tt

gives-bind : {A B : Type 0} (P : B → Type 0) (r : Res A) (f : A → Res B) → ((a : A) → Gives P (f a)) → Gives P (r >>= f)
gives-bind P r f g = gives-known P r f (λ a _. g a)

-- an atom around the command at node n
abbrev AtomAround : Cmd → ℕ → Type 0
AtomAround (no_cmd k) n = ⊥
AtomAround (var k x c) n = ⊥
AtomAround (call k a b) n = ⊥
AtomAround (malloc k x) n = ⊥
AtomAround (assign k x e) n = ⊥
AtomAround (assign_field k a b c) n = ⊥
AtomAround (skip k) n = ⊥
AtomAround (seq k a b) n = ⊥
AtomAround (while k t c) n = ⊥
AtomAround (if k t a b) n = ⊥
AtomAround (par k a b) n = ⊥
AtomAround (atom k c) n = n ≡ cmd_no c

-- only an atom enters, and around its own command, in its own chain
abbrev EntersAs : Chain → Cmd → Next → Type 0
EntersAs ch c Ended = Unit {0}
EntersAs ch c (GoesOn n dh) = Unit {0}
EntersAs ch c (Repeats b dh w) = Unit {0}
EntersAs ch c (Enters n dh) = AtomAround c n × (dh ≡ ch)

abbrev DoesAs : Chain → Cmd → Deed → Type 0
DoesAs ch c (deed e x) = EntersAs ch c x

module _ (sc : Script) where
  exec-enters : (s : Store) (ch : Chain) (c : Cmd) → Gives (DoesAs ch c) (exec sc s ch c)
  unfolding exec_by calling into_field enter
  exec-enters s ch (no_cmd n) = tt
  exec-enters s ch (var n x c) = tt
  exec-enters s ch (call n a b) =
      gives-bind P _ _ (λ f. gives-bind P _ _ (λ p. gives-bind P _ _ (λ v. go v p)))
    where
      P : Deed → Type 0
      P = DoesAs ch (call n a b)

      into : (v : Value) (dh : Chain) (p : Procedure) → P (enter s dh v p)
      into v dh (formal x c) = tt

      go : (v : Value) (p : Closure) → Gives P (calling sc s v p)
      go v (closure k dh) = gives-bind P _ _ (λ p. into v dh p)
  exec-enters s ch (malloc n x) = gives-bind (DoesAs ch (malloc n x)) _ _ (λ k. tt)
  exec-enters s ch (assign n x e) =
      gives-bind (DoesAs ch (assign n x e)) _ _ (λ v. gives-bind (DoesAs ch (assign n x e)) _ _ (λ k. tt))
  exec-enters s ch (assign_field n a b c) =
      gives-bind P _ _ (λ v. gives-bind P _ _ (λ w. gives-bind P _ _ (λ o. gives-bind P _ _ (λ f. gives-bind P _ _ (λ u. gives-bind P _ _ (λ obj. gives-bind P _ _ (λ old. tt)))))))
    where
      P : Deed → Type 0
      P = DoesAs ch (assign_field n a b c)
  exec-enters s ch (skip n) = tt
  exec-enters s ch (seq n a b) = tt
  exec-enters s ch (while n t c) = gives-bind (DoesAs ch (while n t c)) _ _ (λ z. go z)
    where
      go : (z : Bool) → EntersAs ch (while n t c) (cond z (Repeats (cmd_no c) ch n) Ended)
      go true = tt
      go false = tt
  exec-enters s ch (if n t a b) = gives-bind (DoesAs ch (if n t a b)) _ _ (λ z. go z)
    where
      go : (z : Bool) → EntersAs ch (if n t a b) (cond z (GoesOn (cmd_no a) ch) (GoesOn (cmd_no b) ch))
      go true = tt
      go false = tt
  exec-enters s ch (par n a b) = tt
  exec-enters s ch (atom n c) = (refl, refl)

  -- ---- a step enters a block exactly when an atom moves

  an-atom : (t : Control) (i n : ℕ) (ch : Chain) (k : ℕ) (c : Cmd)
      → get_elem? (movable t) i ≡ some (move k ch)
      → sc.cmd_at k ≡ c
      → AtomAround c n
      → AtomMoves sc t i n ch
  an-atom t i n ch k (no_cmd j) p e h = absurd h
  an-atom t i n ch k (var j x c) p e h = absurd h
  an-atom t i n ch k (call j a b) p e h = absurd h
  an-atom t i n ch k (malloc j x) p e h = absurd h
  an-atom t i n ch k (assign j x d) p e h = absurd h
  an-atom t i n ch k (assign_field j a b c) p e h = absurd h
  an-atom t i n ch k (skip j) p e h = absurd h
  an-atom t i n ch k (seq j a b) p e h = absurd h
  an-atom t i n ch k (while j b c) p e h = absurd h
  an-atom t i n ch k (if j b c d) p e h = absurd h
  an-atom t i n ch k (par j a b) p e h = absurd h
  an-atom t i n ch k (atom j c) p e h = record { node = k; picks = p; number = j; inner = c; is = e; inside = h }

  pub enters-only : (s : Store) (t : Control) (i n : ℕ) (ch : Chain)
      → EntersBlock (mini_oo sc) s t i n ch
      → AtomMoves sc t i n ch
  enters-only s t i n ch x =
      let d : RuleDoes sc s t i x.effect (Enters n ch) = (made-only sc s t i x.effect (Enters n ch) x.plans).does in
      let g : Gives (DoesAs d.chain (sc.cmd_at d.node)) (ok (deed x.effect (Enters n ch))) =
      rw d.no-fault at (exec-enters s d.chain (sc.cmd_at d.node)) in
      an-atom t i n ch d.node (sc.cmd_at d.node) (cc (d.picks, g.1)) refl g.0

  same-exec : (s : Store) (n k : ℕ) (ch dh : Chain) (r : Res Deed)
      → k ≡ n
      → dh ≡ ch
      → exec sc s dh (sc.cmd_at k) ≡ r
      → exec sc s ch (sc.cmd_at n) ≡ r
  same-exec s n k ch dh r p q e = rw (← p, ← q) e

  pub enters-if : (s : Store) (t : Control) (i n : ℕ) (ch : Chain)
      → AtomMoves sc t i n ch
      → (s₁ : Store) (o₁ : Option Control)
      → step (mini_oo sc) s t i ≡ goes_to s₁ o₁
      → EntersBlock (mini_oo sc) s t i n ch
  unfolding exec_by
  enters-if s t i n ch a s₁ o₁ e =
      let g : Goes (mini_oo sc) s t i s₁ o₁ = goes-only (mini_oo sc) s t i s₁ o₁ e in
      let d : RuleDoes sc s t i g.effect g.leaves = (made-only sc s t i g.effect g.leaves g.plans).does in
      let p : some (move a.node ch) ≡ some (move d.node d.chain) = sym a.picks ∙ d.picks in
      let k : d.node ≡ a.node = cc in
      let c : d.chain ≡ ch = cc in
      let q : exec sc s ch (sc.cmd_at a.node) ≡ ok (deed g.effect g.leaves) =
      same-exec s a.node d.node ch d.chain (ok (deed g.effect g.leaves)) k c d.no-fault in
      let z : ok (deed Keep (Enters (cmd_no a.inner) ch)) ≡ ok (deed g.effect g.leaves) = rw a.is at q in
      let y : g.leaves ≡ Enters (cmd_no a.inner) ch = cc in
      record { effect = g.effect; plans = cc (g.plans, y, a.inside) }

  -- From the step of an atom to the step that leaves it, only that block moves.
  pub only-that-atom-moves : (s : Store) (t : Control) (i n : ℕ) (ch : Chain)
      → Nested t
      → AtomMoves sc t i n ch
      → (s₁ : Store) (o₁ : Option Control)
      → step (mini_oo sc) s t i ≡ goes_to s₁ o₁
      → Sealed (mini_oo sc) t i n ch s₁ o₁
  only-that-atom-moves s t i n ch h a s₁ o₁ e =
      only-that-block-moves (mini_oo sc) s t i n ch h (enters-if s t i n ch a s₁ o₁ e) s₁ o₁ e
