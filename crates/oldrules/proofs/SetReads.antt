-- What a command reads in a store, and in that store with null in each unset cell: a variable is found in the same frame, and
-- objects are the same. So expressions, tests and commands come to the same in both, or the one that reads the unset cell is
-- fault 8; with null in those cells nothing is. For every store and every tree, without acceptance. Assumes nothing.
use Prim.Native.Nat.{ℕ, zero, suc}
use mathlib.Core.Path.{◌≡◌, refl, sym, ap}
use mathlib.Core.Bool.{true, false}
use mathlib.Core.Option
use mathlib.Core.Option.{Option, none, some}
use mathlib.Core.List.{List, [], ◌∷◌, map}
use lib.ListN.{length, get_elem?, length-map}
use lib.IntN.{◌-ℤ◌}
use mir.Syntax.{w32}
use mir.Val.{to_z}
use Rattle.rules.specs.Syntax.{Exp, Test, Cmd, no_exp, field, int, diff, null, ref, select, proc, no_test, is_true, is_false, equal, less, no_cmd, var, call, malloc, assign, assign_field, skip, seq, while, if, par, atom}
use Rattle.rules.specs.Script.{Script, Procedure, formal}
use Rattle.rules.specs.declared.Chain.{Chain}
use Rattle.rules.specs.declared.Chain.TheVariants.{Empty, From}
use Rattle.rules.specs.declared.Value.{Value}
use Rattle.rules.specs.declared.Value.TheVariants.{Nothing, Null, Int, Field, Object, Proc, Unset}
use Rattle.rules.specs.declared.Frame.{Frame}
use Rattle.rules.specs.State.{Store, find, outward, bearing, with_cell, field_of, frame_at, object_at}
use Rattle.rules.specs.Eval.{unset_variable, fault_no, Res, ok, fault, stuck, ◌>>=◌, there, by_kind, Closure, closure, as_int, as_field, as_object, as_proc, reading, fitting, eval_by, eval, equals, test_by, test}
use Rattle.rules.specs.Step.{next_chain, enter, into_field, calling, exec_by, exec}
use Rattle.oldrules.specs.BeforeOrder5.{nulled, cell_nulled, with_nulls}
use Rattle.oldrules.proofs.SetFaults.{NoUnset, none-bound, none-there, none-int, none-field, none-object, none-proc, none-fitting, none-in-field, none-equals}

-- ---- the frames, with null in each unset cell: the same names and outer frames

pub entry-nulled : (fs : List Frame) (k : ℕ) → get_elem? (map cell_nulled fs) k ≡ Option.map cell_nulled (get_elem? fs k)
entry-nulled [] k = refl
entry-nulled (f ∷ fs) zero = refl
entry-nulled (f ∷ fs) (suc k) = entry-nulled fs k

pub count_same : (s : Store) → length (with_nulls s).frames ≡ length s.frames
unfolding with_nulls
count_same s = length-map s.frames cell_nulled

outward-same : (k : ℕ) (fs : List Frame) (x : ℕ) (ch : Chain) → outward k (map cell_nulled fs) x ch ≡ outward k fs x ch
unfolding outward bearing cell_nulled with_cell
outward-same zero fs x ch = refl
outward-same (suc k) fs x Empty = refl
outward-same (suc k) fs x (From i) = rw (entry-nulled fs i) (go (outward-same k fs x) (get_elem? fs i))
  where
    go : ((ch : Chain) → outward k (map cell_nulled fs) x ch ≡ outward k fs x ch)
        → (o : Option Frame)
        → bearing x i (outward k (map cell_nulled fs) x) (Option.map cell_nulled o) ≡ bearing x i (outward k fs x) o
    go on none = refl
    go on (some f) = rw (on f.outer)

pub find-same : (s : Store) (x : ℕ) (ch : Chain) → find (with_nulls s).frames x ch ≡ find s.frames x ch
unfolding find with_nulls
find-same s x ch = rw (length-map s.frames cell_nulled) (outward-same (length s.frames) s.frames x ch)

pub next-same : (s : Store) → next_chain (with_nulls s) ≡ next_chain s
unfolding next_chain
next-same s = rw (count_same s)

enter-same : (s : Store) (ch : Chain) (v : Value) (p : Procedure) → enter (with_nulls s) ch v p ≡ enter s ch v p
unfolding enter
enter-same s ch v (formal x c) = rw (next-same s)

-- ---- the same, or fault 8

-- `nulls` with null in each unset cell is no fault 8; and it is what `now` is, unless that is fault 8
pub data Agrees {A : Type 0} (nulls now : Res A) : Type 0 where
  same : NoUnset nulls → nulls ≡ now → Agrees nulls now
  reads-unset : NoUnset nulls → (n : ℕ) → now ≡ fault (fault_no unset_variable) n → Agrees nulls now

pub no-fault-8 : {A : Type 0} (nulls now : Res A) → Agrees nulls now → NoUnset nulls
no-fault-8 nulls now (same h e) = h
no-fault-8 nulls now (reads-unset h n e) = h

agrees : {A : Type 0} (r : Res A) → NoUnset r → Agrees r r
agrees r h = same h refl

agrees-bound : {A B : Type 0} (m m' : Res A) (f g : A → Res B) → Agrees m m' → ((a : A) → Agrees (f a) (g a)) → Agrees (m >>= f) (m' >>= g)
unfolding ◌>>=◌
agrees-bound m m' f g (same h e) each = rw (sym e) (go m h)
  where
    go : (r : Res _) → NoUnset r → Agrees (r >>= f) (r >>= g)
    go (ok a) h = each a
    go (fault k n) h = same h refl
    go stuck h = same h refl
agrees-bound m m' f g (reads-unset h n e) each = reads-unset (none-bound m f h (λ a. no-fault-8 (f a) (g a) (each a))) n (rw e)

-- what both read alike, and then
after : {A B : Type 0} (m : Res A) (f g : A → Res B) → NoUnset m → ((a : A) → Agrees (f a) (g a)) → Agrees (m >>= f) (m >>= g)
after m f g h each = agrees-bound m m f g (agrees m h) each

cell-agrees : (n : ℕ) (v : Value) → Agrees (reading (fault (fault_no unset_variable) n) (nulled v)) (reading (fault (fault_no unset_variable) n) v)
unfolding reading by_kind nulled
cell-agrees n Nothing = agrees stuck tt
cell-agrees n Unset = reads-unset tt n refl
cell-agrees n Null = agrees (ok Null) tt
cell-agrees n (Int b) = agrees (ok (Int b)) tt
cell-agrees n (Field f) = agrees (ok (Field f)) tt
cell-agrees n (Object o) = agrees (ok (Object o)) tt
cell-agrees n (Proc m ch) = agrees (ok (Proc m ch)) tt

frame-agrees : (n : ℕ) (o : Option Frame)
    → Agrees (there (Option.map cell_nulled o) >>= λ f. reading (fault (fault_no unset_variable) n) f.cell) (there o >>= λ f. reading (fault (fault_no unset_variable) n) f.cell)
unfolding there ◌>>=◌ cell_nulled with_cell
frame-agrees n none = agrees stuck tt
frame-agrees n (some f) = cell-agrees n f.cell

module _ (s : Store) (ch : Chain) where
  pub eval-agrees : (e : Exp) → Agrees (eval (with_nulls s) ch e) (eval s ch e)
  unfolding eval_by with_nulls
  eval-agrees (no_exp n) = agrees stuck tt
  eval-agrees (field n f) = agrees (ok (Field f)) tt
  eval-agrees (int n b) = agrees (ok (Int b)) tt
  eval-agrees (diff n a b) =
      agrees-bound (eval (with_nulls s) ch a) (eval s ch a) _ _ (eval-agrees a) λ v.
      agrees-bound (eval (with_nulls s) ch b) (eval s ch b) _ _ (eval-agrees b) λ w.
      after (as_int 1 n v) _ _ (none-int 1 n tt v) λ i.
      after (as_int 1 n w) _ _ (none-int 1 n tt w) λ j.
      agrees (fitting n (to_z w32 i -ℤ to_z w32 j)) (none-fitting n (to_z w32 i -ℤ to_z w32 j))
  eval-agrees (null n) = agrees (ok Null) tt
  eval-agrees (ref n x) =
      rw (find-same s x ch)
      (after (there (find s.frames x ch)) _ _ (none-there (find s.frames x ch)) λ k.
      rw (entry-nulled s.frames k) (frame-agrees n (frame_at s k)))
  eval-agrees (select n a b) =
      agrees-bound (eval (with_nulls s) ch a) (eval s ch a) _ _ (eval-agrees a) λ v.
      agrees-bound (eval (with_nulls s) ch b) (eval s ch b) _ _ (eval-agrees b) λ w.
      after (as_object 3 n v) _ _ (none-object 3 n tt v) λ o.
      after (as_field 4 n w) _ _ (none-field 4 n tt w) λ f.
      after (there (object_at s o)) _ _ (none-there (object_at s o)) λ x.
      after (there (field_of x f)) _ _ (none-there (field_of x f)) λ u.
      agrees (reading stuck u) (none-in-field u)
  eval-agrees (proc n y c) = agrees (ok (Proc n ch)) tt

  module _ (sc : Script) where
    pub test-agrees : (t : Test) → Agrees (test sc (with_nulls s) ch t) (test sc s ch t)
    unfolding test_by
    test-agrees (no_test n) = agrees stuck tt
    test-agrees (is_true n) = agrees (ok true) tt
    test-agrees (is_false n) = agrees (ok false) tt
    test-agrees (equal n a b) =
        agrees-bound (eval (with_nulls s) ch a) (eval s ch a) _ _ (eval-agrees a) λ v.
        agrees-bound (eval (with_nulls s) ch b) (eval s ch b) _ _ (eval-agrees b) λ w.
        agrees (equals sc n v w) (none-equals sc n v w)
    test-agrees (less n a b) =
        agrees-bound (eval (with_nulls s) ch a) (eval s ch a) _ _ (eval-agrees a) λ v.
        agrees-bound (eval (with_nulls s) ch b) (eval s ch b) _ _ (eval-agrees b) λ w.
        after (as_int 6 n v) _ _ (none-int 6 n tt v) λ i.
        after (as_int 6 n w) _ _ (none-int 6 n tt w) λ j.
        agrees _ tt

    calling-agrees : (v : Value) (p : Closure) → Agrees (calling sc (with_nulls s) v p) (calling sc s v p)
    unfolding calling
    calling-agrees v (closure m dh) =
        after (there (sc.proc_at m)) _ _ (none-there (sc.proc_at m)) λ p.
        same tt (ap ok (enter-same s dh v p))

    field-agrees : (o f : ℕ) (u : Value) → Agrees (into_field (with_nulls s) o f u) (into_field s o f u)
    unfolding into_field with_nulls
    field-agrees o f u =
        after (there (object_at s o)) _ _ (none-there (object_at s o)) λ x.
        after (there (field_of x f)) _ _ (none-there (field_of x f)) λ old.
        agrees _ tt

    pub exec-agrees : (c : Cmd) → Agrees (exec sc (with_nulls s) ch c) (exec sc s ch c)
    unfolding exec_by
    exec-agrees (no_cmd n) = agrees stuck tt
    exec-agrees (var n x c) = same tt (rw (next-same s))
    exec-agrees (call n a b) =
        agrees-bound (eval (with_nulls s) ch a) (eval s ch a) _ _ (eval-agrees a) λ f.
        after (as_proc 7 n f) _ _ (none-proc 7 n tt f) λ p.
        agrees-bound (eval (with_nulls s) ch b) (eval s ch b) _ _ (eval-agrees b) λ v.
        calling-agrees v p
    exec-agrees (malloc n x) =
        rw (find-same s x ch) (after (there (find s.frames x ch)) _ _ (none-there (find s.frames x ch)) λ k. agrees _ tt)
    exec-agrees (assign n x e) =
        rw (find-same s x ch)
        (after (there (find s.frames x ch)) _ _ (none-there (find s.frames x ch)) λ k.
        agrees-bound (eval (with_nulls s) ch e) (eval s ch e) _ _ (eval-agrees e) λ v.
        agrees _ tt)
    exec-agrees (assign_field n a b c) =
        agrees-bound (eval (with_nulls s) ch a) (eval s ch a) _ _ (eval-agrees a) λ v.
        agrees-bound (eval (with_nulls s) ch b) (eval s ch b) _ _ (eval-agrees b) λ w.
        after (as_object 3 n v) _ _ (none-object 3 n tt v) λ o.
        after (as_field 4 n w) _ _ (none-field 4 n tt w) λ f.
        agrees-bound (eval (with_nulls s) ch c) (eval s ch c) _ _ (eval-agrees c) λ u.
        field-agrees o f u
    exec-agrees (skip n) = agrees _ tt
    exec-agrees (seq n a b) = agrees stuck tt
    exec-agrees (while n t c) = agrees-bound (test sc (with_nulls s) ch t) (test sc s ch t) _ _ (test-agrees t) λ b. agrees _ tt
    exec-agrees (if n t a b) = agrees-bound (test sc (with_nulls s) ch t) (test sc s ch t) _ _ (test-agrees t) λ z. agrees _ tt
    exec-agrees (par n a b) = agrees stuck tt
    exec-agrees (atom n c) = agrees _ tt
