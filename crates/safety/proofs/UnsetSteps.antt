-- What one step does to the cells (order 5): a declaration makes an unset one; a call makes a set one; an assignment and a malloc set one;
-- nothing else touches any. So a cell is unset after a step exactly when the step declared it, or it was unset before and the step
-- doesn't store to it. For any store and script. Assumes nothing.
use Prim.Native.Nat.{ℕ}
use mathlib.Core.Path.{◌≡◌, refl, sym, ap, subst, ◌∙◌}
use mathlib.Core.Logic.{◌≢◌, ◌⊎◌, inl, inr}
use mathlib.Core.Option.{Option, none, some, map, some-injective, none-ne-some}
use lib.ListN.{get_elem?}
use borrow.Author.Tests.{eqb-false}
use Rattle.laws.specs.Lists.{each-push}
use Rattle.rules.specs.Syntax.{Cmd, no_cmd, var, call, malloc, assign, assign_field, skip, seq, while, if, par, atom}
use Rattle.rules.specs.declared.Chain.{Chain}
use Rattle.rules.specs.declared.Frame.{Frame}
use Rattle.rules.specs.declared.Value.{Value}
use Rattle.rules.specs.declared.Value.TheVariants.{Object, Unset}
use Rattle.rules.specs.declared.Effect.{Effect}
use Rattle.rules.specs.declared.Effect.TheVariants.{NewFrame, NewObject, SetCell}
use Rattle.rules.specs.State.{Store, find, frame, frame_at, next_frame, next_object, with_cell, push_frame, push_object, put_cell, put_field}
use Rattle.rules.specs.Script.{Script, Procedure, formal}
use Rattle.rules.specs.Eval.{Res, ok, ◌>>=◌, there, Closure, closure}
use Rattle.rules.specs.Control.{Control, move, movable, goes_to}
use Rattle.rules.specs.Step.{Deed, deed, enter, calling, into_field, exec_by, exec, apply, step, mini_oo}
use Rattle.rules.specs.Numbers.{kind_no}
use Rattle.rules.proofs.StoreLaws.{each-change, change-same, push-new, push-stays, cell_other}
use Rattle.rules.proofs.Values.{never-unset}
use Rattle.safety.specs.Unset.{UnsetAt, Sets, an-assignment, a-malloc, Declares, StoresTo}
use Rattle.safety.proofs.AtomsNodes.{Gives, gives-known}
use Rattle.safety.proofs.Plans.{RuleDoes}
use Rattle.safety.proofs.ReachesStep.{Goes, goes-only}
use Rattle.safety.proofs.Rooms.{made-only}

-- ---- what a command does to the cells

gives-there : {A B : Type 0} (P : B → Type 0) (o : Option A) (f : A → Res B) → ((a : A) → o ≡ some a → Gives P (f a)) → Gives P (there o >>= f)
unfolding ◌>>=◌ there
gives-there P none f g = tt
gives-there P (some a) f g = g a refl

module _ (sc : Script) (s : Store) (ch : Chain) where
  -- the effect is one that leaves every frame as it is
  abbrev NoCell : Effect → Type 0
  NoCell e = (apply sc e s).frames ≡ s.frames

  abbrev Touches : Cmd → Effect → Type 0
  Touches (no_cmd n) e = NoCell e
  Touches (var n x c) e = e ≡ NewFrame (frame x ch Unset)
  Touches (call n a b) e = (f : Frame) × (f.cell ≢ Unset) × (e ≡ NewFrame f)
  Touches (malloc n x) e = (k : ℕ) × (find s.frames x ch ≡ some k) × (e ≡ NewObject k)
  Touches (assign n x a) e = (k : ℕ) × (find s.frames x ch ≡ some k) × ((v : Value) × (v ≢ Unset) × (e ≡ SetCell v k))
  Touches (assign_field n a b c) e = NoCell e
  Touches (skip n) e = NoCell e
  Touches (seq n a b) e = NoCell e
  Touches (while n t c) e = NoCell e
  Touches (if n t a b) e = NoCell e
  Touches (par n a b) e = NoCell e
  Touches (atom n c) e = NoCell e

  abbrev Deeds : Cmd → Deed → Type 0
  Deeds c (deed e x) = Touches c e

  called : (n : ℕ) (a b : _) (v : Value) (p : Closure) → v ≢ Unset → Gives (Deeds (call n a b)) (calling sc s v p)
  unfolding calling enter
  called n a b v (closure m dh) set = gives-there (Deeds (call n a b)) (sc.proc_at m) _ (λ p _. go p)
    where
      go : (p : Procedure) → Gives (Deeds (call n a b)) (ok (enter s dh v p))
      go (formal x c) = (frame x dh v, set, refl)

  touches : (c : Cmd) → Gives (Deeds c) (exec sc s ch c)
  unfolding exec_by into_field apply put_field
  touches (no_cmd n) = tt
  touches (var n x c) = refl
  touches (call n a b) =
      gives-known (Deeds (call n a b)) _ _ λ f _.
      gives-known (Deeds (call n a b)) _ _ λ p _.
      gives-known (Deeds (call n a b)) _ _ λ v is.
      called n a b v p (λ e. never-unset s ch b (is ∙ ap ok e))
  touches (malloc n x) = gives-there (Deeds (malloc n x)) _ _ λ k is. (k, is, refl)
  touches (assign n x a) =
      gives-there (Deeds (assign n x a)) _ _ λ k is.
      gives-known (Deeds (assign n x a)) _ _ λ v h.
      (k, is, (v, (λ e. never-unset s ch a (h ∙ ap ok e)), refl))
  touches (assign_field n a b c) =
      gives-known (Deeds (assign_field n a b c)) _ _ λ v _.
      gives-known (Deeds (assign_field n a b c)) _ _ λ w _.
      gives-known (Deeds (assign_field n a b c)) _ _ λ o _.
      gives-known (Deeds (assign_field n a b c)) _ _ λ f _.
      gives-known (Deeds (assign_field n a b c)) _ _ λ u _.
      gives-there (Deeds (assign_field n a b c)) _ _ λ x _.
      gives-there (Deeds (assign_field n a b c)) _ _ λ old _. refl
  touches (skip n) = refl
  touches (seq n a b) = tt
  touches (while n t c) = gives-known (Deeds (while n t c)) _ _ λ b _. refl
  touches (if n t a b) = gives-known (Deeds (if n t a b)) _ _ λ z _. refl
  touches (par n a b) = tt
  touches (atom n c) = refl

-- ---- the cells after it

object-set : (o : ℕ) → Object o ≢ Unset
unfolding kind_no
object-set o e = eqb-false (kind_no (Object o)) (kind_no Unset) refl (ap kind_no e)

module _ (s : Store) (k : ℕ) where
  -- the frame of a new variable, or one that was there
  pushed-unset : (f : Frame) → UnsetAt (push_frame f s) k → UnsetAt s k ⊎ ((f.cell ≡ Unset) × (next_frame s ≡ k))
  unfolding push_frame
  pushed-unset f u =
      each-push (λ j g. g.cell ≡ Unset → UnsetAt s j ⊎ ((f.cell ≡ Unset) × (next_frame s ≡ j))) s.frames f
      (λ j g is e. inl (record { frame = g; is = is; unset = e }))
      (λ e. inr (e, refl))
      k u.frame u.is u.unset

  stored-unset : (j : ℕ) (v : Value) → v ≢ Unset → UnsetAt (put_cell j v s) k → UnsetAt s k
  unfolding put_cell with_cell
  stored-unset j v set u =
      each-change (λ i g. g.cell ≡ Unset → UnsetAt s i) (λ f. with_cell f v) s.frames j
      (λ i g is e. record { frame = g; is = is; unset = e })
      (λ g is e. absurd (set e))
      k u.frame u.is u.unset

  stored_here : (v : Value) → v ≢ Unset → UnsetAt (put_cell k v s) k → ⊥
  unfolding put_cell with_cell
  stored_here v set u = go (frame_at s k) (sym (change-same (λ f. with_cell f v) s.frames k) ∙ u.is)
    where
      go : (o : Option Frame) → map (λ f. with_cell f v) o ≡ some u.frame → ⊥
      go none e = none-ne-some _ e
      go (some f) e = set (ap (λ (g : Frame). g.cell) (some-injective _ _ e) ∙ u.unset)

  unset-kept : (j : ℕ) (v : Value) → j ≢ k → UnsetAt s k → UnsetAt (put_cell j v s) k
  unset-kept j v other u = record { frame = u.frame; is = cell_other j k v s other ∙ u.is; unset = u.unset }

  unset-stays : (f : Frame) → UnsetAt s k → UnsetAt (push_frame f s) k
  unset-stays f u = record { frame = u.frame; is = push-stays f s k u.frame u.is; unset = u.unset }

-- the same frames have the same unset cells
same-frames : (s r : Store) (k : ℕ) → r.frames ≡ s.frames → UnsetAt r k → UnsetAt s k
same-frames s r k e u = record { frame = u.frame; is = ap (λ fs. get_elem? fs k) (sym e) ∙ u.is; unset = u.unset }

module _ (sc : Script) (s : Store) (ch : Chain) (k : ℕ) where
  abbrev IsVar : Cmd → Type 0
  IsVar c = (n : ℕ) × (x : ℕ) × ((d : Cmd) × (c ≡ var n x d))

  abbrev After : Effect → Type 0
  After e = UnsetAt (apply sc e s) k

  -- it was unset before, or was declared now
  before-unset : (c : Cmd) (e : Effect) → Touches sc s ch c e → After e → UnsetAt s k ⊎ (IsVar c × (next_frame s ≡ k))
  unfolding apply push_object
  before-unset (no_cmd n) e t u = inl (same-frames s (apply sc e s) k t u)
  before-unset (var n x c) e t u = go (pushed-unset s k (frame x ch Unset) (subst After t u))
    where
      go : UnsetAt s k ⊎ ((Unset ≡ Unset) × (next_frame s ≡ k)) → UnsetAt s k ⊎ (IsVar (var n x c) × (next_frame s ≡ k))
      go (inl old) = inl old
      go (inr new) = inr ((n, x, (c, refl)), new.1)
  before-unset (call n a b) e (f, set, t) u = go (pushed-unset s k f (subst After t u))
    where
      go : UnsetAt s k ⊎ ((f.cell ≡ Unset) × (next_frame s ≡ k)) → UnsetAt s k ⊎ (IsVar (call n a b) × (next_frame s ≡ k))
      go (inl old) = inl old
      go (inr new) = absurd (set new.0)
  before-unset (malloc n x) e (j, is, t) u =
      let r = push_object sc.fields s in
      inl (same-frames s r k refl (stored-unset r k j (Object (next_object s)) (object-set (next_object s)) (subst After t u)))
  before-unset (assign n x a) e (j, is, (v, set, t)) u = inl (stored-unset s k j v set (subst After t u))
  before-unset (assign_field n a b c) e t u = inl (same-frames s (apply sc e s) k t u)
  before-unset (skip n) e t u = inl (same-frames s (apply sc e s) k t u)
  before-unset (seq n a b) e t u = inl (same-frames s (apply sc e s) k t u)
  before-unset (while n b c) e t u = inl (same-frames s (apply sc e s) k t u)
  before-unset (if n b c d) e t u = inl (same-frames s (apply sc e s) k t u)
  before-unset (par n a b) e t u = inl (same-frames s (apply sc e s) k t u)
  before-unset (atom n c) e t u = inl (same-frames s (apply sc e s) k t u)

  -- what is stored to is not unset
  after_store : (x : ℕ) (c : Cmd) (e : Effect) → Sets x c → find s.frames x ch ≡ some k → Touches sc s ch c e → After e → ⊥
  unfolding apply push_object
  after_store x _ e an-assignment finds (j, is, (v, set, t)) u =
      let here : j ≡ k = some-injective _ _ (sym is ∙ finds) in
      stored_here s k v set (subst (λ i. UnsetAt (put_cell i v s) k) here (subst After t u))
  after_store x _ e a-malloc finds (j, is, t) u =
      let here : j ≡ k = some-injective _ _ (sym is ∙ finds) in
      let v = Object (next_object s) in
      let r = push_object sc.fields s in
      stored_here r k v (object-set (next_object s)) (subst (λ i. UnsetAt (put_cell i v r) k) here (subst After t u))

  -- what isn't stored to stays unset
  still-unset : (c : Cmd) (e : Effect) → Touches sc s ch c e → ((x : ℕ) → Sets x c → find s.frames x ch ≡ some k → ⊥) → UnsetAt s k → After e
  unfolding apply push_object
  still-unset (no_cmd n) e t free u = same-frames (apply sc e s) s k (sym t) u
  still-unset (var n x c) e t free u = subst After (sym t) (unset-stays s k (frame x ch Unset) u)
  still-unset (call n a b) e (f, set, t) free u = subst After (sym t) (unset-stays s k f u)
  still-unset (malloc n x) e (j, is, t) free u =
      let r = push_object sc.fields s in
      let elsewhere : j ≢ k = λ h. free x a-malloc (is ∙ ap some h) in
      subst After (sym t) (unset-kept r k j (Object (next_object s)) elsewhere (same-frames r s k refl u))
  still-unset (assign n x a) e (j, is, (v, set, t)) free u =
      let elsewhere : j ≢ k = λ h. free x an-assignment (is ∙ ap some h) in
      subst After (sym t) (unset-kept s k j v elsewhere u)
  still-unset (assign_field n a b c) e t free u = same-frames (apply sc e s) s k (sym t) u
  still-unset (skip n) e t free u = same-frames (apply sc e s) s k (sym t) u
  still-unset (seq n a b) e t free u = same-frames (apply sc e s) s k (sym t) u
  still-unset (while n b c) e t free u = same-frames (apply sc e s) s k (sym t) u
  still-unset (if n b c d) e t free u = same-frames (apply sc e s) s k (sym t) u
  still-unset (par n a b) e t free u = same-frames (apply sc e s) s k (sym t) u
  still-unset (atom n c) e t free u = same-frames (apply sc e s) s k (sym t) u

-- ---- a step

module _ (sc : Script) (s : Store) (t : Control) (i : ℕ) (s₁ : Store) (o₁ : Option Control) (made : step (mini_oo sc) s t i ≡ goes_to s₁ o₁) where
  -- the command that moved, and what it did to the cells
  record Moved : Type 0 where
    pub node : ℕ
    pub chain : Chain
    pub effect : Effect
    pub picks : get_elem? (movable t) i ≡ some (move node chain)
    pub touched : Touches sc s chain (sc.cmd_at node) effect
    pub after : s₁ ≡ apply sc effect s

  moved : Moved
  unfolding mini_oo
  moved =
      let g : Goes (mini_oo sc) s t i s₁ o₁ = goes-only (mini_oo sc) s t i s₁ o₁ made in
      let d : RuleDoes sc s t i g.effect g.leaves = (made-only sc s t i g.effect g.leaves g.plans).does in
      record {
        node = d.node;
        chain = d.chain;
        effect = g.effect;
        picks = d.picks;
        touched = subst (Gives (Deeds sc s d.chain (sc.cmd_at d.node))) d.no-fault (touches sc s d.chain (sc.cmd_at d.node));
        after = g.store;
      }

  -- the command picked is the one that moved
  same_move : (n : ℕ) (ch : Chain) → get_elem? (movable t) i ≡ some (move n ch) → (P : ℕ → Chain → Type 0) → P n ch → P moved.node moved.chain
  same_move n ch p P h =
      let q : some (move n ch) ≡ some (move moved.node moved.chain) = sym p ∙ moved.picks in
      let a : n ≡ moved.node = cc in
      let b : ch ≡ moved.chain = cc in
      subst (P moved.node) b (subst (λ m. P m ch) a h)

  module _ (k : ℕ) where
    pub unset-before : UnsetAt s₁ k → (UnsetAt s k × (StoresTo sc s t i k → ⊥)) ⊎ Declares sc s t i k
    unset-before u = go (before-unset sc s moved.chain k (sc.cmd_at moved.node) moved.effect moved.touched v)
      where
        v : UnsetAt (apply sc moved.effect s) k
        v = subst (λ r. UnsetAt r k) moved.after u

        kept : StoresTo sc s t i k → ⊥
        kept h =
            let w = same_move h.node h.chain h.picks (λ n ch. Sets h.name (sc.cmd_at n) × (find s.frames h.name ch ≡ some k)) (h.sets, h.finds) in
            after_store sc s moved.chain k h.name (sc.cmd_at moved.node) moved.effect w.0 w.1 moved.touched v

        go : UnsetAt s k ⊎ (IsVar sc s moved.chain k (sc.cmd_at moved.node) × (next_frame s ≡ k)) → (UnsetAt s k × (StoresTo sc s t i k → ⊥)) ⊎ Declares sc s t i k
        go (inl old) = inl (old, kept)
        go (inr ((n, x, (d, is)), gets)) =
            inr (record { node = moved.node; chain = moved.chain; picks = moved.picks; number = n; name = x; inner = d; is = is; gets = gets })

    pub unset-after : UnsetAt s k → (StoresTo sc s t i k → ⊥) → UnsetAt s₁ k
    unset-after u free =
        subst (λ r. UnsetAt r k) (sym moved.after)
        (still-unset sc s moved.chain k (sc.cmd_at moved.node) moved.effect moved.touched
        (λ x sets finds. free (record { node = moved.node; chain = moved.chain; picks = moved.picks; name = x; sets = sets; finds = finds }))
        u)

    pub declared-unset : Declares sc s t i k → UnsetAt s₁ k
    unfolding apply
    declared-unset d =
        let is = same_move d.node d.chain d.picks (λ n ch. sc.cmd_at n ≡ var d.number d.name d.inner) d.is in
        let new : moved.effect ≡ NewFrame (frame d.name moved.chain Unset) = subst (λ c. Touches sc s moved.chain c moved.effect) is moved.touched in
        let f = frame d.name moved.chain Unset in
        subst (λ r. UnsetAt r k) (sym moved.after)
        (subst (λ e. UnsetAt (apply sc e s) k) (sym new)
        (subst (λ j. UnsetAt (push_frame f s) j) d.gets (record { frame = f; is = push-new f s; unset = refl })))
