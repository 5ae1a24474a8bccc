-- The rules before order 5, which made a variable begin unset: the cell of a new variable held null (document 002, 4.3.2). They stand
-- here to be compared with the rules (proofs/SetRuns), and for nothing else; what order 5 left as it was is the rules' own, by
-- name. No step of theirs makes an unset cell (proofs/SetRuns, never-unset-before), so that nothing of theirs reads one. Assumes nothing.
use Rattle.std.specs.Prelude.{ℕ, ◌≡◌, List, map}
use Rattle.rules.specs.Syntax.{Cmd, no_cmd, var, call, malloc, assign, assign_field, skip, seq, while, if, par, atom, cmd_no}
use Rattle.rules.specs.Script.{Script, script_of, root_of}
use Rattle.rules.specs.declared.Chain.{Chain}
use Rattle.rules.specs.declared.Value.{Value}
use Rattle.rules.specs.declared.Value.TheVariants.{Nothing, Null, Int, Field, Object, Proc, Unset}
use Rattle.rules.specs.declared.Frame.{Frame}
use Rattle.rules.specs.declared.Effect.{Effect}
use Rattle.rules.specs.declared.Effect.TheVariants.{NewFrame}
use Rattle.rules.specs.declared.Next.TheVariants.{GoesOn}
use Rattle.rules.specs.declared.Stop.TheVariants.{Faulted}
use Rattle.rules.specs.declared.End.TheVariants.{UsedUp, Stopped}
use Rattle.rules.specs.State.{Store, frame, with_cell}
use Rattle.rules.specs.Eval.{Res, ok, fault_no, unset_variable}
use Rattle.rules.specs.Step.{Deed, deed, next_chain, exec, apply, planned, Machine}
use Rattle.rules.specs.Run.{Ran, ran, run, bare}

-- ---- the rules

module _ (sc : Script) where
  -- a declaration "assigns the initial value null"; every other command does what it does now
  unfoldable pub null_exec : Store → Chain → Cmd → Res Deed
  null_exec s ch (var n x c) = ok (deed (NewFrame (frame x ch Null)) (GoesOn (cmd_no c) (next_chain s)))
  null_exec s ch (no_cmd n) = exec sc s ch (no_cmd n)
  null_exec s ch (call n a b) = exec sc s ch (call n a b)
  null_exec s ch (malloc n x) = exec sc s ch (malloc n x)
  null_exec s ch (assign n x e) = exec sc s ch (assign n x e)
  null_exec s ch (assign_field n a b c) = exec sc s ch (assign_field n a b c)
  null_exec s ch (skip n) = exec sc s ch (skip n)
  null_exec s ch (seq n a b) = exec sc s ch (seq n a b)
  null_exec s ch (while n t c) = exec sc s ch (while n t c)
  null_exec s ch (if n t a b) = exec sc s ch (if n t a b)
  null_exec s ch (par n a b) = exec sc s ch (par n a b)
  null_exec s ch (atom n c) = exec sc s ch (atom n c)

unfoldable pub null_machine : List ℕ → Machine Store Effect
null_machine img =
    record {
      cmd_at = (script_of img).cmd_at;
      act = λ s n ch. planned s (null_exec (script_of img) s ch ((script_of img).cmd_at n));
      apply = apply (script_of img);
    }

unfoldable pub null_run : List ℕ → List ℕ → Ran Store
null_run img cs = run (null_machine img) bare (root_of img) cs

-- ---- what is compared

-- null where a variable is unset
unfoldable pub nulled : Value → Value
nulled Nothing = Nothing
nulled Unset = Null
nulled Null = Null
nulled (Int b) = Int b
nulled (Field f) = Field f
nulled (Object o) = Object o
nulled (Proc n ch) = Proc n ch

unfoldable pub cell_nulled : Frame → Frame
cell_nulled f = with_cell f (nulled f.cell)

-- the store with null in each cell that is unset, and all else as it is
unfoldable pub with_nulls : Store → Store
with_nulls s = record { frames = map cell_nulled s.frames; objects = s.objects }

-- a run that ended with fault 8, at whatever node
abbrev pub ReadUnset : Ran Store → Type 0
ReadUnset r = (n : ℕ) × (r.end ≡ Stopped (Faulted (fault_no unset_variable) n))

-- a run at the moment it came to, its choices used up
abbrev pub used_up : {S : Type 0} → Ran S → Ran S
used_up r = ran UsedUp r.steps r.store r.control

-- the same end, steps and control, and the same store but for the cells that are still unset, null before
pub record SameButUnset (old new : Ran Store) : Type 0 where
  pub end : old.end ≡ new.end
  pub steps : old.steps ≡ new.steps
  pub store : old.store ≡ with_nulls new.store
  pub control : old.control ≡ new.control
