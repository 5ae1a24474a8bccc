-- Fault 8 arises where a cell is read, and nowhere else: what an operation wants of its operands, and what is looked up, has
-- faults of other numbers. Assumes nothing.
use Prim.Native.Nat.{ℕ, ◌^◌}
use mathlib.Core.Bool.{Bool, true, false, cond, not}
use mathlib.Core.Option.{Option, none, some}
use lib.Dec.{T, eqb, ltb}
use lib.IntN.{ℤ}
use lib.Signed.{mag}
use mir.Syntax.{w32}
use mir.Val.{of_z}
use Rattle.rules.specs.Script.{Script}
use Rattle.rules.specs.declared.Chain.{Chain}
use Rattle.rules.specs.declared.Value.{Value}
use Rattle.rules.specs.declared.Value.TheVariants.{Nothing, Null, Int, Field, Object, Proc, Unset}
use Rattle.rules.specs.Eval.{difference_outside, unset_variable, fault_no, Res, ok, fault, stuck, ◌>>=◌, there, by_kind, Closure, closure, as_int, as_field, as_object, as_proc, as_location, as_unfit, reading, fitting, same_closure, equals}

-- whatever it is, it is not fault 8
abbrev pub NoUnset : {A : Type 0} → Res A → Type 0
NoUnset (ok a) = Unit {0}
NoUnset (fault k n) = T (not (eqb k (fault_no unset_variable)))
NoUnset stuck = Unit {0}

pub none-bound : {A B : Type 0} (m : Res A) (f : A → Res B) → NoUnset m → ((a : A) → NoUnset (f a)) → NoUnset (m >>= f)
unfolding ◌>>=◌
none-bound (ok a) f h each = each a
none-bound (fault k n) f h each = h
none-bound stuck f h each = h

pub none-there : {A : Type 0} (o : Option A) → NoUnset (there o)
unfolding there
none-there none = tt
none-there (some a) = tt

pub none-by-kind : {A : Type 0} (z u : Res A) (i f o : ℕ → Res A) (p : ℕ → Chain → Res A) (v : Value)
    → NoUnset z
    → NoUnset u
    → ((b : ℕ) → NoUnset (i b))
    → ((b : ℕ) → NoUnset (f b))
    → ((b : ℕ) → NoUnset (o b))
    → ((m : ℕ) (ch : Chain) → NoUnset (p m ch))
    → NoUnset (by_kind z u i f o p v)
unfolding by_kind
none-by-kind z u i f o p Nothing hz hu hi hf ho hp = tt
none-by-kind z u i f o p Unset hz hu hi hf ho hp = hz
none-by-kind z u i f o p Null hz hu hi hf ho hp = hu
none-by-kind z u i f o p (Int b) hz hu hi hf ho hp = hi b
none-by-kind z u i f o p (Field b) hz hu hi hf ho hp = hf b
none-by-kind z u i f o p (Object b) hz hu hi hf ho hp = ho b
none-by-kind z u i f o p (Proc m ch) hz hu hi hf ho hp = hp m ch

-- an operand of another kind is another fault
module _ (w n : ℕ) (other : T (not (eqb w (fault_no unset_variable)))) (v : Value) where
  pub none-int : NoUnset (as_int w n v)
  unfolding as_int
  none-int = none-by-kind _ _ _ _ _ _ v other other (λ b. tt) (λ b. other) (λ b. other) (λ m ch. other)

  pub none-field : NoUnset (as_field w n v)
  unfolding as_field
  none-field = none-by-kind _ _ _ _ _ _ v other other (λ b. other) (λ b. tt) (λ b. other) (λ m ch. other)

  pub none-object : NoUnset (as_object w n v)
  unfolding as_object
  none-object = none-by-kind _ _ _ _ _ _ v other other (λ b. other) (λ b. other) (λ b. tt) (λ m ch. other)

  pub none-proc : NoUnset (as_proc w n v)
  unfolding as_proc
  none-proc = none-by-kind _ _ _ _ _ _ v other other (λ b. other) (λ b. other) (λ b. other) (λ m ch. tt)

  pub none-location : NoUnset (as_location w n v)
  unfolding as_location
  none-location = none-by-kind _ _ _ _ _ _ v other tt (λ b. other) (λ b. other) (λ b. tt) (λ m ch. other)

  pub none-unfit : NoUnset (as_unfit w n {A = Bool} v)
  unfolding as_unfit
  none-unfit = none-by-kind _ _ _ _ _ _ v other other (λ b. other) (λ b. other) (λ b. other) (λ m ch. other)

pub none-fitting : (n : ℕ) (z : ℤ) → NoUnset (fitting n z)
unfolding fitting
none-fitting n z = go (ltb (mag z) (2 ^ 31))
  where
    go : (b : Bool) → NoUnset (cond b (ok (Int (of_z w32 z))) (fault (fault_no difference_outside) n))
    go true = tt
    go false = tt

-- a field is read in an object, where unset is no fault
pub none-in-field : (u : Value) → NoUnset (reading stuck u)
unfolding reading
none-in-field u = none-by-kind _ _ _ _ _ _ u tt tt (λ b. tt) (λ b. tt) (λ b. tt) (λ m ch. tt)

module _ (sc : Script) where
  pub none-closures : (p q : Closure) → NoUnset (same_closure sc p q)
  unfolding same_closure
  none-closures (closure m ch) (closure n dh) =
      none-bound (there (sc.proc_at m)) _ (none-there (sc.proc_at m)) λ p.
      none-bound (there (sc.proc_at n)) _ (none-there (sc.proc_at n)) λ q.
      tt

  pub none-equals : (n : ℕ) (v w : Value) → NoUnset (equals sc n v w)
  unfolding equals
  none-equals n Nothing w = tt
  none-equals n Unset w = none-unfit 5 n tt w
  none-equals n Null w = none-bound (as_location 5 n w) _ (none-location 5 n tt w) λ q. tt
  none-equals n (Int b) w = none-bound (as_int 5 n w) _ (none-int 5 n tt w) λ c. tt
  none-equals n (Field f) w = none-unfit 5 n tt w
  none-equals n (Object o) w = none-bound (as_location 5 n w) _ (none-location 5 n tt w) λ q. tt
  none-equals n (Proc m ch) w = none-bound (as_proc 5 n w) _ (none-proc 5 n tt w) λ q. none-closures (closure m ch) q
