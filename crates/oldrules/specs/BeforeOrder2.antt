-- The rules before order 2, which made a fault stop the run wherever it arises. Document 01 said: "an argument that faults is
-- stored in the formal's cell, and the right side of a field assignment that faults is stored in the field; the run goes on",
-- and "Reading a stored fault is that fault, at the reading node". They stand here to be compared with the rules
-- (proofs/EqualRuns), and for nothing else; what order 2 left as it was is the rules' own, by name, with what later orders changed
-- of it: an unset variable is fault 8 here too (order 5). Assumes nothing.
use Rattle.std.specs.Prelude.{ℕ, Bool, false, cond, ◌&&◌, List, [], ◌∷◌, eqb}
use Rattle.std.proofs.Math.Option.{Option, none, some}
use Rattle.rules.specs.Syntax.{Exp, Cmd, no_cmd, var, call, malloc, assign, assign_field, skip, seq, while, if, par, atom}
use Rattle.rules.specs.Script.{Script, script_of, root_of}
use Rattle.rules.specs.declared.Chain.{Chain}
use Rattle.rules.specs.declared.Chain.TheVariants.{Empty}
use Rattle.rules.specs.declared.Value.{Value}
use Rattle.rules.specs.declared.Value.TheVariants.{Nothing}
use Rattle.rules.specs.declared.Effect.{Effect}
use Rattle.rules.specs.declared.Stop.TheVariants.{Faulted, NoRule}
use Rattle.rules.specs.State.{Store, empty, next_frame}
use Rattle.rules.specs.Eval.{fault_no, no_object, no_field, no_procedure, Res, ok, fault, stuck, ◌>>=◌, as_object, as_field, as_proc, Reads, plainly, eval_by}
use Rattle.rules.specs.Step.{Deed, deed, calling, into_field, exec_by, apply, short_of, with_room, Plan, refuses, Machine}
use Rattle.rules.specs.Run.{Start, Ran, run}

-- ---- the store, with faults in it

-- where a fault may be stored: the cell of a frame, a field of an object
pub data Place : Type 0 where
  a_cell : ℕ → Place
  a_field : ℕ → ℕ → Place

unfoldable pub same_place : Place → Place → Bool
same_place (a_cell k) (a_cell j) = eqb k j
same_place (a_cell k) (a_field p g) = false
same_place (a_field o f) (a_cell j) = false
same_place (a_field o f) (a_field p g) = eqb o p && eqb f g

-- A fault that was stored: where, and its number. The node where it arose isn't stored, since who reads it tells his own
-- node; it is kept for the comparison.
pub record StoredFault : Type 0 where
  pub place : Place
  pub number : ℕ
  pub arose : ℕ

-- A cell or a field that holds a fault holds no value: `Nothing` stands there, and the list says which fault, newest first.
pub record OldStore : Type 0 where
  pub values : Store
  pub faults : List StoredFault

unfoldable pub newest_at : Place → List StoredFault → Option ℕ
newest_at p [] = none
newest_at p (f ∷ fs) = cond (same_place f.place p) (some f.number) (newest_at p fs)

-- no fault is stored
unfoldable pub unfaulted : Store → OldStore
unfaulted s = record { values = s; faults = [] }

-- ---- "Reading a stored fault is that fault, at the reading node."

unfoldable pub raised : ℕ → Option ℕ → Res Value
raised n none = stuck
raised n (some k) = fault k n

-- the value that stands there; where none does, the other
unfoldable pub value_or : Res Value → Res Value → Res Value
value_or (ok v) r = ok v
value_or (fault k n) r = fault k n
value_or stuck r = r

unfoldable pub old_reads : List StoredFault → Reads
old_reads fs =
    record {
      in_cell = λ n k v. value_or (plainly.in_cell n k v) (raised n (newest_at (a_cell k) fs));
      in_field = λ n o f v. value_or (plainly.in_field n o f v) (raised n (newest_at (a_field o f) fs));
    }

-- ---- ".. is stored in the formal's cell, .. is stored in the field; the run goes on."

-- what a command does, and the fault that it stores, if it stores one
pub data OldDeed : Type 0 where
  old_deed : Deed → Option StoredFault → OldDeed

-- as the rules have it, and no fault is stored
unfoldable pub as_now : Res Deed → Res OldDeed
as_now r = r >>= λ d. ok (old_deed d none)

-- a value goes where the deed puts it; of a fault nothing goes there, and it is stored at that place
unfoldable pub storing : Place → Res Value → (Value → Res Deed) → Res OldDeed
storing p (ok v) f = as_now (f v)
storing p (fault k n) f = f Nothing >>= λ d. ok (old_deed d (some (record { place = p; number = k; arose = n })))
storing p stuck f = stuck

module _ (sc : Script) where
  unfoldable pub old_eval : OldStore → Chain → Exp → Res Value
  old_eval o ch e = eval_by (old_reads o.faults) o.values ch e

  -- what commands do that store no fault: as the rules have it, but that they read as above
  unfoldable pub others : OldStore → Chain → Cmd → Res OldDeed
  others o ch c = as_now (exec_by sc (old_reads o.faults) o.values ch c)

  unfoldable pub old_exec : OldStore → Chain → Cmd → Res OldDeed
  old_exec o ch (call n a b) = do
    f ← old_eval o ch a
    p ← as_proc (fault_no no_procedure) n f
    storing (a_cell (next_frame o.values)) (old_eval o ch b) (λ v. calling sc o.values v p)
  old_exec o ch (assign_field n a b c) = do
    v ← old_eval o ch a
    w ← old_eval o ch b
    q ← as_object (fault_no no_object) n v
    f ← as_field (fault_no no_field) n w
    storing (a_field q f) (old_eval o ch c) (into_field o.values q f)
  old_exec o ch (no_cmd n) = others o ch (no_cmd n)
  old_exec o ch (var n x c) = others o ch (var n x c)
  old_exec o ch (malloc n x) = others o ch (malloc n x)
  old_exec o ch (assign n x e) = others o ch (assign n x e)
  old_exec o ch (skip n) = others o ch (skip n)
  old_exec o ch (seq n a b) = others o ch (seq n a b)
  old_exec o ch (while n t c) = others o ch (while n t c)
  old_exec o ch (if n t a b) = others o ch (if n t a b)
  old_exec o ch (par n a b) = others o ch (par n a b)
  old_exec o ch (atom n c) = others o ch (atom n c)

-- ---- the machine, and the run

-- an effect on the store's values, and the fault that is stored with it
pub record OldEffect : Type 0 where
  pub effect : Effect
  pub stores : Option StoredFault

unfoldable pub noted : Option StoredFault → List StoredFault → List StoredFault
noted none fs = fs
noted (some f) fs = f ∷ fs

unfoldable pub old_apply : Script → OldEffect → OldStore → OldStore
old_apply sc e o = record { values = apply sc e.effect o.values; faults = noted e.stores o.faults }

-- the same order: a fault that stops, before room
unfoldable pub old_planned : OldStore → Res OldDeed → Plan OldEffect
old_planned o (ok (old_deed (deed e x) q)) = with_room (short_of e o.values) (record { effect = e; stores = q }) x
old_planned o (fault k n) = refuses (Faulted k n)
old_planned o stuck = refuses NoRule

unfoldable pub old_machine : List ℕ → Machine OldStore OldEffect
old_machine img =
    record {
      cmd_at = (script_of img).cmd_at;
      act = λ o n ch. old_planned o (old_exec (script_of img) o ch ((script_of img).cmd_at n));
      apply = old_apply (script_of img);
    }

abbrev pub old_bare : Start OldStore
old_bare = record { store = unfaulted empty; chain = Empty; names = [] }

unfoldable pub old_run : List ℕ → List ℕ → Ran OldStore
old_run img cs = run (old_machine img) old_bare (root_of img) cs
