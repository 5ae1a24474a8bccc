-- What a command did before order 5, in whatever store: it made a variable with null where it makes one that is unset; else it
-- did what it does, since no command stores unset. The effect of it, on the store with null in its unset cells, is the effect
-- of now with null in the cells that are unset then, and it needs the same room. Assumes nothing.
use Prim.Native.Nat.{ℕ, zero, suc}
use mathlib.Core.Path.{◌≡◌, refl, ap}
use mathlib.Core.List.{List, [], ◌∷◌, map, map-append}
use Rattle.rules.specs.Syntax.{Cmd, no_cmd, var, call, malloc, assign, assign_field, skip, seq, while, if, par, atom}
use Rattle.rules.specs.Script.{Script, Procedure, formal}
use Rattle.rules.specs.declared.Chain.{Chain}
use Rattle.rules.specs.declared.Value.{Value}
use Rattle.rules.specs.declared.Value.TheVariants.{Nothing, Null, Int, Field, Object, Proc, Unset}
use Rattle.rules.specs.declared.Frame.{Frame}
use Rattle.rules.specs.declared.Effect.{Effect}
use Rattle.rules.specs.declared.Effect.TheVariants.{Keep, NewFrame, NewObject, SetCell, SetField}
use Rattle.rules.specs.State.{Store, find, with_cell, change, push_frame, put_cell, put_field, push_object, next_object, object_at, field_of}
use Rattle.rules.specs.Eval.{Res, ok, fault, stuck, ◌>>=◌, there, Closure, closure, as_proc, as_object, as_field, eval, test}
use Rattle.rules.specs.Step.{Deed, deed, enter, calling, into_field, exec_by, exec, apply, short_of}
use Rattle.rules.proofs.Values.{IsValue, answers-a-value}
use Rattle.oldrules.specs.BeforeOrder5.{null_exec, nulled, cell_nulled, with_nulls}
use Rattle.oldrules.proofs.SetReads.{count_same}

-- ---- what a command did: what it does, with null for unset

unfoldable pub effect_before : Effect → Effect
effect_before Keep = Keep
effect_before (NewFrame f) = NewFrame (cell_nulled f)
effect_before (NewObject k) = NewObject k
effect_before (SetCell v k) = SetCell (nulled v) k
effect_before (SetField v o f) = SetField v o f

unfoldable pub deed_before : Deed → Deed
deed_before (deed e x) = deed (effect_before e) x

unfoldable pub before : Res Deed → Res Deed
before r = r >>= λ d. ok (deed_before d)

value_same : (v : Value) → IsValue v → nulled v ≡ v
unfolding nulled
value_same Nothing h = absurd h
value_same Unset h = absurd h
value_same Null h = refl
value_same (Int b) h = refl
value_same (Field f) h = refl
value_same (Object o) h = refl
value_same (Proc n ch) h = refl

-- by the lines of a command
before-bound : {A : Type 0} (m : Res A) (f : A → Res Deed) → ((a : A) → m ≡ ok a → f a ≡ before (f a)) → m >>= f ≡ before (m >>= f)
unfolding before ◌>>=◌
before-bound (ok a) f each = each a refl
before-bound (fault k n) f each = refl
before-bound stuck f each = refl

module _ (sc : Script) (s : Store) where
  calling-before : (v : Value) → IsValue v → (p : Closure) → calling sc s v p ≡ before (calling sc s v p)
  unfolding calling before deed_before effect_before ◌>>=◌ cell_nulled with_cell enter
  calling-before v h (closure m ch) = before-bound (there (sc.proc_at m)) _ λ p e. go p
    where
      go : (p : Procedure) → ok (enter s ch v p) ≡ before (ok (enter s ch v p))
      go (formal x c) = rw (value_same v h)

  field-before : (o f : ℕ) (u : Value) → into_field s o f u ≡ before (into_field s o f u)
  unfolding into_field before deed_before effect_before ◌>>=◌
  field-before o f u =
      before-bound (there (object_at s o)) _ λ x e.
      before-bound (there (field_of x f)) _ λ old d.
      refl

  -- a declaration alone is another now
  pub null-exec : (ch : Chain) (c : Cmd) → null_exec sc s ch c ≡ before (exec sc s ch c)
  unfolding null_exec exec_by before deed_before effect_before ◌>>=◌ cell_nulled with_cell nulled
  null-exec ch (no_cmd n) = refl
  null-exec ch (var n x c) = refl
  null-exec ch (call n a b) =
      before-bound (eval s ch a) _ λ f d.
      before-bound (as_proc 7 n f) _ λ p e.
      before-bound (eval s ch b) _ λ v g.
      calling-before v (answers-a-value s ch b v g) p
  null-exec ch (malloc n x) = before-bound (there (find s.frames x ch)) _ λ k e. refl
  null-exec ch (assign n x e) =
      before-bound (there (find s.frames x ch)) _ λ k d.
      before-bound (eval s ch e) _ λ v g.
      rw (value_same v (answers-a-value s ch e v g))
  null-exec ch (assign_field n a b c) =
      before-bound (eval s ch a) _ λ v d.
      before-bound (eval s ch b) _ λ w e.
      before-bound (as_object 3 n v) _ λ o g.
      before-bound (as_field 4 n w) _ λ f h.
      before-bound (eval s ch c) _ λ u j.
      field-before o f u
  null-exec ch (skip n) = refl
  null-exec ch (seq n a b) = refl
  null-exec ch (while n t c) = before-bound (test sc s ch t) _ λ b e. refl
  null-exec ch (if n t a b) = before-bound (test sc s ch t) _ λ z e. refl
  null-exec ch (par n a b) = refl
  null-exec ch (atom n c) = refl

-- ---- an effect on the store, and room for it

change-same : (fs : List Frame) (k : ℕ) (v : Value)
    → change (λ f. with_cell f (nulled v)) (map cell_nulled fs) k
    ≡ map cell_nulled (change (λ f. with_cell f v) fs k)
unfolding change cell_nulled with_cell
change-same [] k v = refl
change-same (f ∷ fs) zero v = refl
change-same (f ∷ fs) (suc k) v = ap (λ l. cell_nulled f ∷ l) (change-same fs k v)

cell_same : (k : ℕ) (v : Value) (s : Store) → put_cell k (nulled v) (with_nulls s) ≡ with_nulls (put_cell k v s)
unfolding put_cell with_nulls
cell_same k v s = rw (change-same s.frames k v)

pub apply-same : (sc : Script) (e : Effect) (s : Store) → apply sc (effect_before e) (with_nulls s) ≡ with_nulls (apply sc e s)
unfolding apply effect_before with_nulls push_frame push_object put_field put_cell nulled
apply-same sc Keep s = refl
apply-same sc (NewFrame f) s = rw (map-append cell_nulled s.frames (f ∷ []))
apply-same sc (NewObject k) s = cell_same k (Object (next_object s)) (push_object sc.fields s)
apply-same sc (SetCell v k) s = cell_same k v s
apply-same sc (SetField v o f) s = refl

pub short-same : (e : Effect) (s : Store) → short_of (effect_before e) (with_nulls s) ≡ short_of e s
unfolding short_of effect_before
short-same Keep s = refl
short-same (NewFrame f) s = rw (count_same s)
short-same (NewObject k) s = unfold with_nulls in refl
short-same (SetCell v k) s = refl
short-same (SetField v o f) s = refl
