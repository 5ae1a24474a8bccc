-- While no fault is stored, the rules before order 2 read as the rules do. Then a command does by them what it does now, or
-- it stores a fault that stops it now. It needs what demand 3 gives: the procedure that is called, or the field that is
-- assigned to, is there; else the old rules, which look for it before they store the fault, would be stuck where the rules
-- fault. Assumes nothing.
use Prim.Native.Nat.{ℕ, zero, suc, ◌≤◌}
use mathlib.Core.Path.{◌≡◌, refl, ap, fun_ext}
use mathlib.Core.Option.{some}
use mathlib.Core.List.{[]}
use native.Mathlib.Omega.{arith}
use Rattle.laws.specs.Lists.{entry-there}
use Rattle.rules.specs.Syntax.{Exp, Cmd, no_cmd, var, call, malloc, assign, assign_field, skip, seq, while, if, par, atom}
use Rattle.rules.specs.Scope.{Names}
use Rattle.rules.specs.declared.Chain.{Chain}
use Rattle.rules.specs.declared.Value.{Value}
use Rattle.rules.specs.declared.Value.TheVariants.{Nothing}
use Rattle.rules.specs.declared.Effect.TheVariants.{SetField}
use Rattle.rules.specs.declared.Next.TheVariants.{Ended}
use Rattle.rules.specs.State.{Store, AnObject, field_of, next_frame, HasObject}
use Rattle.rules.specs.Script.{Script, formal}
use Rattle.rules.specs.Eval.{fault_no, no_object, no_field, no_procedure, Res, ok, fault, stuck, ◌>>=◌, there, Closure, closure, as_object, as_field, as_proc, plainly, eval}
use Rattle.rules.specs.Step.{Deed, deed, enter, calling, into_field, exec_by, exec}
use Rattle.rules.proofs.StoreLaws.{object-there}
use Rattle.safety.specs.Safe.{FitExp, FitCmd, Bears, IsProc, Real, RealObject, RealStore}
use Rattle.safety.specs.Fits.{Fine}
use Rattle.safety.proofs.Fine.{Of, fine-object, fine-field, fine-proc, fine-eval}
use Rattle.oldrules.specs.BeforeOrder2.{Place, a_cell, a_field, unfaulted, newest_at, raised, value_or, old_reads, OldDeed, old_deed, as_now, storing, old_eval, others, old_exec}

-- ---- reading

value-or-stuck : (r : Res Value) → value_or r stuck ≡ r
unfolding value_or
value-or-stuck (ok v) = refl
value-or-stuck (fault k n) = refl
value-or-stuck stuck = refl

pub reads-plainly : old_reads [] ≡ plainly
unfolding old_reads newest_at raised
reads-plainly =
    let same : ◌≡◌ {A = Res Value → Res Value} (λ r. value_or r stuck) (λ r. r) = fun_ext value-or-stuck in
    ap (λ (g : Res Value → Res Value). record { in_cell = λ n k v. g (plainly.in_cell n k v); in_field = λ n o f v. g (plainly.in_field n o f v) }) same

pub old-eval : (sc : Script) (s : Store) (ch : Chain) (e : Exp) → old_eval sc (unfaulted s) ch e ≡ eval s ch e
unfolding old_eval unfaulted
old-eval sc s ch e = rw reads-plainly

old-others : (sc : Script) (s : Store) (ch : Chain) (c : Cmd) → others sc (unfaulted s) ch c ≡ as_now (exec sc s ch c)
unfolding others unfaulted
old-others sc s ch c = rw reads-plainly

-- ---- what a command does

-- by the old rules the same, or it stores the fault that it is now
pub data SameOrStores (old : Res OldDeed) (new : Res Deed) : Type 0 where
  same : old ≡ as_now new → SameOrStores old new
  stores : (d : Deed) (p : Place) (k n : ℕ) → old ≡ ok (old_deed d (some (record { place = p; number = k; arose = n }))) → new ≡ fault k n → SameOrStores old new

same-bind : {A : Type 0} (sc : Script) (P : A → Type 0) (m : Res A) (f : A → Res OldDeed) (g : A → Res Deed)
    → Fine sc P m
    → ((a : A) → P a → SameOrStores (f a) (g a))
    → SameOrStores (m >>= f) (m >>= g)
unfolding ◌>>=◌ as_now
same-bind sc P (ok a) f g h each = each a h
same-bind sc P (fault k n) f g h each = same refl
same-bind sc P stuck f g h each = same refl

same-storing : (p : Place) (r : Res Value) (f : Value → Res Deed)
    → (d : Deed) × (f Nothing ≡ ok d)
    → SameOrStores (storing p r f) (r >>= f)
unfolding ◌>>=◌ as_now storing
same-storing p (ok v) f x = same refl
same-storing p (fault k n) f x = stores x.0 p k n (rw x.1) refl
same-storing p stuck f x = same refl

module _ (sc : Script) (s : Store) where
  calls : (p : Closure) → Of (IsProc sc s) p → (d : Deed) × (calling sc s Nothing p ≡ ok d)
  unfolding calling ◌>>=◌ there
  calls (closure m ch) p = (enter s ch Nothing (formal p.name p.body), rw p.is)

  field-there : (x : AnObject) (f : ℕ) → RealObject sc s x → (1 ≤ f) × (f ≤ sc.fields) → (v : Value) × (field_of x f ≡ some v)
  unfolding field_of
  field-there x zero r m = absurd (omega (arith, m.0))
  field-there x (suc i) r m = entry-there x.values i (omega (arith, r.long, m.1))

  module _ (good : RealStore sc s) where
    puts : (o f : ℕ) → HasObject s o → (1 ≤ f) × (f ≤ sc.fields) → (d : Deed) × (into_field s o f Nothing ≡ ok d)
    unfolding into_field ◌>>=◌ there
    puts o f l m =
        let x = object-there s o l in
        let y = field-there x.0 f (good.objects o x.0 x.1) m in
        (deed (SetField Nothing o f) Ended, rw (x.1, y.1))

    module _ (ch : Chain) (visible : Names) (sees : Bears s ch visible) where
      fine-exp : (e : Exp) → FitExp sc visible e → Fine sc (Real sc s) (eval s ch e)
      fine-exp e h = fine-eval sc s good ch visible sees e h

      pub same-or-stores : (c : Cmd) → FitCmd sc visible c → SameOrStores (old_exec sc (unfaulted s) ch c) (exec sc s ch c)
      unfolding old_exec exec_by unfaulted
      same-or-stores (no_cmd n) h = same (old-others sc s ch (no_cmd n))
      same-or-stores (var n x c) h = same (old-others sc s ch (var n x c))
      same-or-stores (call n a b) h =
          rw (old-eval sc s ch a, old-eval sc s ch b)
          (same-bind sc (Real sc s) (eval s ch a) _ _ (fine-exp a h.1) λ v r.
          same-bind sc (Of (IsProc sc s)) (as_proc (fault_no no_procedure) n v) _ _ (fine-proc sc s (IsProc sc s) no_procedure n h.0.0 v r) λ p q.
          same-storing (a_cell (next_frame s)) (eval s ch b) (λ w. calling sc s w p) (calls p q))
      same-or-stores (malloc n x) h = same (old-others sc s ch (malloc n x))
      same-or-stores (assign n x e) h = same (old-others sc s ch (assign n x e))
      same-or-stores (assign_field n a b c) h =
          rw (old-eval sc s ch a, old-eval sc s ch b, old-eval sc s ch c)
          (same-bind sc (Real sc s) (eval s ch a) _ _ (fine-exp a h.1) λ v r.
          same-bind sc (Real sc s) (eval s ch b) _ _ (fine-exp b h.2) λ w q.
          same-bind sc (λ o. HasObject s o) (as_object (fault_no no_object) n v) _ _ (fine-object sc s (IsProc sc s) no_object n h.0.0 v r) λ o l.
          same-bind sc (λ f. (1 ≤ f) × (f ≤ sc.fields)) (as_field (fault_no no_field) n w) _ _ (fine-field sc s (IsProc sc s) no_field n h.0.0 w q) λ f m.
          same-storing (a_field o f) (eval s ch c) (into_field s o f) (puts o f l m))
      same-or-stores (skip n) h = same (old-others sc s ch (skip n))
      same-or-stores (seq n a b) h = same (old-others sc s ch (seq n a b))
      same-or-stores (while n t c) h = same (old-others sc s ch (while n t c))
      same-or-stores (if n t a b) h = same (old-others sc s ch (if n t a b))
      same-or-stores (par n a b) h = same (old-others sc s ch (par n a b))
      same-or-stores (atom n c) h = same (old-others sc s ch (atom n c))
