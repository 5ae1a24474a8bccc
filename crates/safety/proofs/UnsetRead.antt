-- Fault 8 is a variable node that is read while the variable is unset, and nothing else (order 5): `reads-unset` says that such a read
-- is it, at that node; `fault-8-only` that a step which stops with it reads such a node. So no operation, no name of an assignment or a
-- malloc and no proc raises it. For any store and script. Assumes nothing.
use Prim.Native.Nat.{ℕ, ◌^◌}
use mathlib.Core.Path.{◌≡◌, refl, subst}
use mathlib.Core.Bool.{Bool, true, false, cond}
use mathlib.Core.Logic.{inl, inr}
use mathlib.Core.Option.{Option, none, some}
use native.Mathlib.Omega.{arith}
use lib.Dec.{ltb}
use lib.IntN.{ℤ, ◌-ℤ◌}
use lib.Signed.{mag}
use mir.Syntax.{w32}
use mir.Val.{to_z, of_z}
use Rattle.rules.specs.Syntax.{Exp, Test, Cmd, no_exp, field, int, diff, null, ref, select, proc, no_test, is_true, is_false, equal, less, no_cmd, var, call, malloc, assign, assign_field, skip, seq, while, if, par, atom}
use Rattle.rules.specs.declared.Chain.{Chain}
use Rattle.rules.specs.declared.Frame.{Frame}
use Rattle.rules.specs.declared.Value.{Value}
use Rattle.rules.specs.declared.Value.TheVariants.{Nothing, Null, Int, Field, Object, Proc, Unset}
use Rattle.rules.specs.declared.Stop.{Stop}
use Rattle.rules.specs.declared.Stop.TheVariants.{Faulted}
use Rattle.rules.specs.State.{Store, find, frame_at}
use Rattle.rules.specs.Script.{Script}
use Rattle.rules.specs.Eval.{fault_no, unset_variable, Res, ok, fault, stuck, ◌>>=◌, there, Closure, closure, by_kind, as_int, as_object, as_field, as_proc, as_location, as_unfit, reading, fitting, eval_by, eval, same_closure, equals, test_by, test}
use Rattle.rules.specs.Control.{Control, stops}
use Rattle.rules.specs.Step.{calling, into_field, exec_by, exec, step, mini_oo}
use Rattle.safety.specs.ReadsOf.{ReadByExp, ReadByTest, ReadBy, UnsetName, ReadsUnset}
use Rattle.safety.proofs.Plans.{Why, no_such, a-fault, no_room, no-rule}
use Rattle.safety.proofs.ReachesStep.{stop-only}
use Rattle.safety.proofs.Rooms.{Explains, explain}

-- ---- such a read is it

pub reads-unset : (s : Store) (ch : Chain) (n x : ℕ) → UnsetName s ch x → eval s ch (ref n x) ≡ fault (fault_no unset_variable) n
unfolding eval_by ◌>>=◌ there reading by_kind
reads-unset s ch n x u = rw (u.finds, u.unset.is, u.unset.unset) refl

-- ---- an answer that is fault 8 is one for which P says why, by its node

abbrev Why8 : {A : Type 0} → (ℕ → Type 0) → Res A → Type 0
Why8 P (ok a) = Unit {0}
Why8 P (fault k n) = k ≡ fault_no unset_variable → P n
Why8 P stuck = Unit {0}

why-more : {A : Type 0} (P Q : ℕ → Type 0) → ((n : ℕ) → P n → Q n) → (r : Res A) → Why8 P r → Why8 Q r
why-more P Q f (ok a) h = tt
why-more P Q f (fault k n) h = λ e. f n (h e)
why-more P Q f stuck h = tt

why-bind : {A B : Type 0} (P : ℕ → Type 0) (r : Res A) (f : A → Res B) → Why8 P r → ((a : A) → Why8 P (f a)) → Why8 P (r >>= f)
unfolding ◌>>=◌
why-bind P (ok a) f h g = g a
why-bind P (fault k n) f h g = h
why-bind P stuck f h g = tt

why-there : {A : Type 0} (P : ℕ → Type 0) (o : Option A) → Why8 P (there o)
unfolding there
why-there P none = tt
why-there P (some a) = tt

why-known : {A B : Type 0} (P : ℕ → Type 0) (o : Option A) (f : A → Res B) → ((a : A) → o ≡ some a → Why8 P (f a)) → Why8 P (there o >>= f)
unfolding there ◌>>=◌
why-known P none f g = tt
why-known P (some a) f g = g a refl

-- by kind, where each kind's answer is none
why-kind : {A : Type 0} (P : ℕ → Type 0) (z u : Res A) (i f o : ℕ → Res A) (p : ℕ → Chain → Res A)
    → Why8 P z
    → Why8 P u
    → ((b : ℕ) → Why8 P (i b))
    → ((b : ℕ) → Why8 P (f b))
    → ((b : ℕ) → Why8 P (o b))
    → ((m : ℕ) (ch : Chain) → Why8 P (p m ch))
    → (v : Value) → Why8 P (by_kind z u i f o p v)
unfolding by_kind
why-kind P z u i f o p hz hu hi hf ho hp Nothing = tt
why-kind P z u i f o p hz hu hi hf ho hp Unset = hz
why-kind P z u i f o p hz hu hi hf ho hp Null = hu
why-kind P z u i f o p hz hu hi hf ho hp (Int b) = hi b
why-kind P z u i f o p hz hu hi hf ho hp (Field b) = hf b
why-kind P z u i f o p hz hu hi hf ho hp (Object b) = ho b
why-kind P z u i f o p hz hu hi hf ho hp (Proc m ch) = hp m ch

-- an operation's own fault is another
module _ (P : ℕ → Type 0) (w : ℕ) (other : w ≡ fault_no unset_variable → ⊥) (n : ℕ) where
  own : w ≡ fault_no unset_variable → P n
  own e = absurd (other e)

  why-int : (v : Value) → Why8 P (as_int w n v)
  unfolding as_int
  why-int = why-kind P _ _ _ _ _ _ own own (λ _. tt) (λ _. own) (λ _. own) (λ _ _. own)

  why-object : (v : Value) → Why8 P (as_object w n v)
  unfolding as_object
  why-object = why-kind P _ _ _ _ _ _ own own (λ _. own) (λ _. own) (λ _. tt) (λ _ _. own)

  why-field : (v : Value) → Why8 P (as_field w n v)
  unfolding as_field
  why-field = why-kind P _ _ _ _ _ _ own own (λ _. own) (λ _. tt) (λ _. own) (λ _ _. own)

  why-proc : (v : Value) → Why8 P (as_proc w n v)
  unfolding as_proc
  why-proc = why-kind P _ _ _ _ _ _ own own (λ _. own) (λ _. own) (λ _. own) (λ _ _. tt)

  why-location : (v : Value) → Why8 P (as_location w n v)
  unfolding as_location
  why-location = why-kind P _ _ _ _ _ _ own tt (λ _. own) (λ _. own) (λ _. tt) (λ _ _. own)

  why-unfit : (A : Type 0) (v : Value) → Why8 P (as_unfit w n {A = A} v)
  unfolding as_unfit
  why-unfit A = why-kind P _ _ _ _ _ _ own own (λ _. own) (λ _. own) (λ _. own) (λ _ _. own)

why-fitting : (P : ℕ → Type 0) (n : ℕ) (z : ℤ) → Why8 P (fitting n z)
unfolding fitting
why-fitting P n z = go (ltb (mag z) (2 ^ 31))
  where
    go : (b : Bool) → Why8 P (cond b (ok (Int (of_z w32 z))) (fault 2 n))
    go true = tt
    go false = λ e. absurd (omega (arith, e))

-- ---- expressions, tests, commands

module _ (s : Store) (ch : Chain) where
  -- one of the nodes that R tells is read, and its variable is unset
  abbrev Unset8 : (ℕ → ℕ → Type 0) → ℕ → Type 0
  Unset8 R n = (x : ℕ) × R n x × UnsetName s ch x

  why-cell : (n x k : ℕ) (f : Frame) → find s.frames x ch ≡ some k → frame_at s k ≡ some f
      → (v : Value) → f.cell ≡ v → Why8 (Unset8 (λ m y. ReadByExp m y (ref n x))) (reading (fault (fault_no unset_variable) n) v)
  unfolding reading by_kind
  why-cell n x k f finds is Nothing e = tt
  why-cell n x k f finds is Unset e = λ _. (x, (refl, refl), record { frame = k; finds = finds; unset = record { frame = f; is = is; unset = e } })
  why-cell n x k f finds is Null e = tt
  why-cell n x k f finds is (Int b) e = tt
  why-cell n x k f finds is (Field b) e = tt
  why-cell n x k f finds is (Object b) e = tt
  why-cell n x k f finds is (Proc m dh) e = tt

  why-value : (P : ℕ → Type 0) (v : Value) → Why8 P (reading stuck v)
  unfolding reading
  why-value P = why-kind P _ _ _ _ _ _ tt tt (λ _. tt) (λ _. tt) (λ _. tt) (λ _ _. tt)

  -- what a part reads the whole reads
  part : {A : Type 0} (R S : ℕ → ℕ → Type 0) → ((n x : ℕ) → R n x → S n x) → (r : Res A) → Why8 (Unset8 R) r → Why8 (Unset8 S) r
  part R S f r h = why-more (Unset8 R) (Unset8 S) (λ n (x, q, u). (x, f n x q, u)) r h

  abbrev InExp : Exp → ℕ → ℕ → Type 0
  InExp e n x = ReadByExp n x e

  abbrev InTest : Test → ℕ → ℕ → Type 0
  InTest t n x = ReadByTest n x t

  abbrev InCmd : Cmd → ℕ → ℕ → Type 0
  InCmd c n x = ReadBy n x c

  why-eval : (e : Exp) → Why8 (Unset8 (InExp e)) (eval s ch e)
  unfolding eval_by
  why-eval (no_exp n) = tt
  why-eval (field n f) = tt
  why-eval (int n b) = tt
  why-eval (diff n a b) =
      let P = Unset8 (InExp (diff n a b)) in
      why-bind P (eval s ch a) _ (part (InExp a) (InExp (diff n a b)) (λ _ _ r. inl r) (eval s ch a) (why-eval a)) λ v.
      why-bind P (eval s ch b) _ (part (InExp b) (InExp (diff n a b)) (λ _ _ r. inr r) (eval s ch b) (why-eval b)) λ w.
      why-bind P (as_int 1 n v) _ (why-int P 1 (λ e. omega (arith, e)) n v) λ i.
      why-bind P (as_int 1 n w) _ (why-int P 1 (λ e. omega (arith, e)) n w) λ j.
      why-fitting P n (to_z w32 i -ℤ to_z w32 j)
  why-eval (null n) = tt
  why-eval (ref n x) =
      let P = Unset8 (InExp (ref n x)) in
      why-known P (find s.frames x ch) _ λ k finds.
      why-known P (frame_at s k) _ λ f is.
      why-cell n x k f finds is f.cell refl
  why-eval (select n a b) =
      let P = Unset8 (InExp (select n a b)) in
      why-bind P (eval s ch a) _ (part (InExp a) (InExp (select n a b)) (λ _ _ r. inl r) (eval s ch a) (why-eval a)) λ v.
      why-bind P (eval s ch b) _ (part (InExp b) (InExp (select n a b)) (λ _ _ r. inr r) (eval s ch b) (why-eval b)) λ w.
      why-bind P (as_object 3 n v) _ (why-object P 3 (λ e. omega (arith, e)) n v) λ o.
      why-bind P (as_field 4 n w) _ (why-field P 4 (λ e. omega (arith, e)) n w) λ f.
      why-bind P (there _) _ (why-there P _) λ x.
      why-bind P (there _) _ (why-there P _) λ u.
      why-value P u
  why-eval (proc n y c) = tt

  module _ (sc : Script) where
    why-same : (P : ℕ → Type 0) (c d : Closure) → Why8 P (same_closure sc c d)
    unfolding same_closure
    why-same P (closure m ah) (closure n bh) = why-bind P (there _) _ (why-there P _) λ p. why-bind P (there _) _ (why-there P _) λ q. tt

    why-equals : (P : ℕ → Type 0) (n : ℕ) (v w : Value) → Why8 P (equals sc n v w)
    unfolding equals
    why-equals P n Nothing w = tt
    why-equals P n Unset w = why-unfit P 5 (λ e. omega (arith, e)) n Bool w
    why-equals P n Null w = why-bind P (as_location 5 n w) _ (why-location P 5 (λ e. omega (arith, e)) n w) λ q. tt
    why-equals P n (Int b) w = why-bind P (as_int 5 n w) _ (why-int P 5 (λ e. omega (arith, e)) n w) λ c. tt
    why-equals P n (Field f) w = why-unfit P 5 (λ e. omega (arith, e)) n Bool w
    why-equals P n (Object o) w = why-bind P (as_location 5 n w) _ (why-location P 5 (λ e. omega (arith, e)) n w) λ q. tt
    why-equals P n (Proc m dh) w = why-bind P (as_proc 5 n w) _ (why-proc P 5 (λ e. omega (arith, e)) n w) λ q. why-same P (closure m dh) q

    why-test : (t : Test) → Why8 (Unset8 (InTest t)) (test sc s ch t)
    unfolding test_by
    why-test (no_test n) = tt
    why-test (is_true n) = tt
    why-test (is_false n) = tt
    why-test (equal n a b) =
        let P = Unset8 (InTest (equal n a b)) in
        why-bind P (eval s ch a) _ (part (InExp a) (InTest (equal n a b)) (λ _ _ r. inl r) (eval s ch a) (why-eval a)) λ v.
        why-bind P (eval s ch b) _ (part (InExp b) (InTest (equal n a b)) (λ _ _ r. inr r) (eval s ch b) (why-eval b)) λ w.
        why-equals P n v w
    why-test (less n a b) =
        let P = Unset8 (InTest (less n a b)) in
        why-bind P (eval s ch a) _ (part (InExp a) (InTest (less n a b)) (λ _ _ r. inl r) (eval s ch a) (why-eval a)) λ v.
        why-bind P (eval s ch b) _ (part (InExp b) (InTest (less n a b)) (λ _ _ r. inr r) (eval s ch b) (why-eval b)) λ w.
        why-bind P (as_int 6 n v) _ (why-int P 6 (λ e. omega (arith, e)) n v) λ i.
        why-bind P (as_int 6 n w) _ (why-int P 6 (λ e. omega (arith, e)) n w) λ j. tt

    why-calling : (P : ℕ → Type 0) (v : Value) (p : Closure) → Why8 P (calling sc s v p)
    unfolding calling
    why-calling P v (closure m dh) = why-bind P (there _) _ (why-there P _) λ p. tt

    why-exec : (c : Cmd) → Why8 (Unset8 (InCmd c)) (exec sc s ch c)
    unfolding exec_by into_field
    why-exec (no_cmd n) = tt
    why-exec (var n x c) = tt
    why-exec (call n a b) =
        let P = Unset8 (InCmd (call n a b)) in
        why-bind P (eval s ch a) _ (part (InExp a) (InCmd (call n a b)) (λ _ _ r. inl r) (eval s ch a) (why-eval a)) λ f.
        why-bind P (as_proc 7 n f) _ (why-proc P 7 (λ e. omega (arith, e)) n f) λ p.
        why-bind P (eval s ch b) _ (part (InExp b) (InCmd (call n a b)) (λ _ _ r. inr r) (eval s ch b) (why-eval b)) λ v.
        why-calling P v p
    why-exec (malloc n x) = why-bind (Unset8 (InCmd (malloc n x))) (there _) _ (why-there _ _) λ k. tt
    why-exec (assign n x e) =
        let P = Unset8 (InCmd (assign n x e)) in
        why-bind P (there _) _ (why-there P _) λ k.
        why-bind P (eval s ch e) _ (part (InExp e) (InCmd (assign n x e)) (λ _ _ r. r) (eval s ch e) (why-eval e)) λ v. tt
    why-exec (assign_field n a b c) =
        let P = Unset8 (InCmd (assign_field n a b c)) in
        why-bind P (eval s ch a) _ (part (InExp a) (InCmd (assign_field n a b c)) (λ _ _ r. inl r) (eval s ch a) (why-eval a)) λ v.
        why-bind P (eval s ch b) _ (part (InExp b) (InCmd (assign_field n a b c)) (λ _ _ r. inr (inl r)) (eval s ch b) (why-eval b)) λ w.
        why-bind P (as_object 3 n v) _ (why-object P 3 (λ e. omega (arith, e)) n v) λ o.
        why-bind P (as_field 4 n w) _ (why-field P 4 (λ e. omega (arith, e)) n w) λ f.
        why-bind P (eval s ch c) _ (part (InExp c) (InCmd (assign_field n a b c)) (λ _ _ r. inr (inr r)) (eval s ch c) (why-eval c)) λ u.
        why-bind P (there _) _ (why-there P _) λ x.
        why-bind P (there _) _ (why-there P _) λ old. tt
    why-exec (skip n) = tt
    why-exec (seq n a b) = tt
    why-exec (while n t c) = why-bind (Unset8 (InCmd (while n t c))) (test sc s ch t) _ (part (InTest t) (InCmd (while n t c)) (λ _ _ r. r) (test sc s ch t) (why-test t)) λ b. tt
    why-exec (if n t a b) = why-bind (Unset8 (InCmd (if n t a b))) (test sc s ch t) _ (part (InTest t) (InCmd (if n t a b)) (λ _ _ r. r) (test sc s ch t) (why-test t)) λ z. tt
    why-exec (par n a b) = tt
    why-exec (atom n c) = tt

-- ---- a step

pub fault-8-only : (sc : Script) (s : Store) (t : Control) (i n : ℕ) → step (mini_oo sc) s t i ≡ stops (Faulted (fault_no unset_variable) n) → ReadsUnset sc s t i n
fault-8-only sc s t i n e = go _ (subst (Explains sc s t i) (stop-only (mini_oo sc) s t i (Faulted 8 n) e) (explain sc s t i)) refl
  where
    go : (r : Stop) → Why sc s t i r → r ≡ Faulted 8 n → ReadsUnset sc s t i n
    go _ (a-fault {k = k} {m = m} {n = node} {ch = ch} picks is) q =
        let w : k ≡ 8 = cc in
        let at : m ≡ n = cc in
        let (x, r, u) = subst (Why8 (Unset8 s ch (InCmd s ch (sc.cmd_at node)))) is (why-exec s ch sc (sc.cmd_at node)) w in
        record { node = node; chain = ch; picks = picks; name = x; reads = subst (λ j. ReadBy j x (sc.cmd_at node)) at r; unset = u }
    go _ (no_such l) q = let z : ◌≡◌ {A = ℕ} 0 1 = cc in absurd (omega arith)
    go _ (no_room l) q = let z : ◌≡◌ {A = ℕ} 0 1 = cc in absurd (omega arith)
    go _ (no-rule p l) q = let z : ◌≡◌ {A = ℕ} 0 1 = cc in absurd (omega arith)

-- .. and where it is read, that is the fault
pub reads_so : (sc : Script) (s : Store) (t : Control) (i n : ℕ) (r : ReadsUnset sc s t i n) → eval s r.chain (ref n r.name) ≡ fault (fault_no unset_variable) n
reads_so sc s t i n r = reads-unset s r.chain n r.name r.unset
