-- Worked cases of the rules before order 2: those of stored faults that were proved while they were the rules (an argument's, a
-- right side's, with frames used up, where nothing is there), and others, computed by hand from document 01's words. So the
-- comparison (EqualRuns) is with those rules. Then the same scripts by the rules, as order 2 has them. Assumes nothing.
use Prim.Native.Nat.{ℕ}
use mathlib.Core.Path.{◌≡◌, refl}
use mathlib.Core.Option.{some}
use mathlib.Core.List.{List, [], ◌∷◌, ◌++◌, map}
use lib.ListN.{replicate}
use Rattle.rules.proofs.Opens.{opens, told-so, all_told, ◌also◌}
use Rattle.rules.specs.declared.Chain.TheVariants.{Empty, From}
use Rattle.rules.specs.declared.Value.TheVariants.{Nothing, Null, Int, Object, Proc, Unset}
use Rattle.rules.specs.declared.Verdict.TheVariants.{Accepted}
use Rattle.rules.specs.State.{Store, frame, size}
use Rattle.rules.specs.Script.{script_of}
use Rattle.rules.specs.Refusals.{check}
use Rattle.rules.specs.Control.{command}
use Rattle.rules.specs.Run.{Ran, ran, run_from}
use Rattle.cases.proofs.Cases.{Tried, tried, begun, Shown, shown, show, parts_of, got, want}
use Rattle.cases.proofs.CasesMore.{argument_faults}
use Rattle.cases.proofs.CasesUnset.{called_with}
use Rattle.cases.proofs.CasesLimits.{calling, callee_faults, frames_of, many_frames, one_frame, one_object, within}
use Rattle.oldrules.proofs.OldScripts.{stored_twice, two_faults, mended, two_arguments, mended_cell, cell_and_field, two_objects}
use Rattle.oldrules.specs.BeforeOrder2.{Place, a_cell, a_field, same_place, StoredFault, OldStore, newest_at, unfaulted, raised, value_or, old_reads, as_now, storing, old_eval, others, old_exec, noted, old_apply, old_planned, old_machine, old_run}

-- ---- what is told of an old run: as of a run, `Nothing` where a fault is stored; and the stored faults, newest first

abbrev pub stored_at : Place → ℕ → ℕ → StoredFault
stored_at p k n = record { place = p; number = k; arose = n }

pub data OldShown : Type 0 where
  old_shown : Shown → List StoredFault → OldShown

pub data OldTried : Type 0 where
  old_tried : List ℕ → List ℕ → OldShown → OldTried  -- bytes, choices, what must be told
  old_begun : Ran OldStore → OldShown → OldTried  -- a run that begins elsewhere, what must be told

-- its values
unfoldable pub values_of : Ran OldStore → Ran Store
values_of r = ran r.end r.steps r.store.values r.control

unfoldable pub old_got : OldTried → OldShown
old_got (old_tried img cs t) = old_shown (show (check [] size img) (values_of (old_run img cs))) (old_run img cs).store.faults
old_got (old_begun r t) = old_shown (show Accepted (values_of r)) r.store.faults

unfoldable pub old_want : OldTried → OldShown
old_want (old_tried img cs t) = t
old_want (old_begun r t) = t

-- at the command of a node, in the chain of frame 0, with this store and no fault stored
unfoldable pub old_within : List ℕ → ℕ → Store → List ℕ → Ran OldStore
old_within img n s cs = run_from (old_machine img) cs 0 (unfaulted s) (some (command n (From 0)))

-- ---- the entries

unfoldable pub old_entries : List (List OldTried)
old_entries =
    -- an argument's fault is stored; it is raised at the node that reads it
    (old_tried argument_faults (replicate 9 0)
    (old_shown (shown (2 ∷ 1 ∷ 0 ∷ 3 ∷ []) 1 (frame 0 Empty (Proc 2 (From 0)) ∷ frame 1 (From 0) Nothing ∷ []) []) (stored_at (a_cell 1) 1 7 ∷ []))
    ∷ [])
    -- a right side's fault is stored, stored again by the right side that reads it, and raised by the assignment
    ∷ (old_tried stored_twice (replicate 9 0)
    (old_shown (shown (2 ∷ 1 ∷ 15 ∷ 4 ∷ []) 1 (frame 0 Empty (Object 0) ∷ []) ((Nothing ∷ Nothing ∷ []) ∷ []))
    (stored_at (a_field 0 2) 1 11 ∷ stored_at (a_field 0 1) 1 5 ∷ []))
    ∷ [])
    -- with 1,024 frames an argument that faults is room 1, a callee that faults is a fault; with 1,023 the call is made
    ∷ (old_begun (old_within calling 10 (many_frames 1023) (0 ∷ [])) (old_shown (shown (3 ∷ 1 ∷ 0 ∷ []) 1 (frames_of 1023) []) [])
    ∷ old_begun (old_within callee_faults 4 (many_frames 1023) (0 ∷ [])) (old_shown (shown (2 ∷ 1 ∷ 2 ∷ 0 ∷ []) 1 (frames_of 1023) []) [])
    ∷ old_begun (old_within calling 10 (many_frames 1022) (0 ∷ []))
    (old_shown (shown (4 ∷ 1 ∷ []) 1 (frames_of 1022 ++ (frame 1 (From 0) Nothing ∷ [])) []) (stored_at (a_cell 1023) 1 9 ∷ []))
    ∷ [])
    -- no rule has a cell that holds nothing, a procedure or an object that isn't there, though the argument or the right side faults
    ∷ (old_begun (old_within calling 10 (one_frame 0 Nothing) (0 ∷ [])) (old_shown (shown (0 ∷ 0 ∷ []) 1 (frame 0 Empty Nothing ∷ []) []) [])
    ∷ old_begun (old_within calling 10 (one_frame 0 (Proc 0 Empty)) (0 ∷ []))
    (old_shown (shown (0 ∷ 0 ∷ []) 1 (frame 0 Empty (Proc 0 Empty) ∷ []) []) [])
    ∷ old_begun (old_within stored_twice 6 (one_frame 0 (Object 0)) (0 ∷ []))
    (old_shown (shown (0 ∷ 0 ∷ []) 1 (frame 0 Empty (Object 0) ∷ []) []) [])
    ∷ [])
    -- nor a field that the object has not; one that it has takes the fault
    ∷ (old_begun (old_within stored_twice 12 (one_object (Null ∷ [])) (0 ∷ [])) (old_shown (shown (0 ∷ 0 ∷ []) 1 (frame 0 Empty (Object 0) ∷ []) ((Null ∷ []) ∷ [])) [])
    ∷ old_begun (old_within stored_twice 6 (one_object (Null ∷ [])) (0 ∷ []))
    (old_shown (shown (1 ∷ 1 ∷ []) 0 (frame 0 Empty (Object 0) ∷ []) ((Nothing ∷ []) ∷ [])) (stored_at (a_field 0 1) 1 5 ∷ []))
    ∷ [])
    -- a fault stored over a fault is the one that is read; each field has its own
    ∷ (old_tried (two_faults 1 1) (replicate 9 0)
    (old_shown (shown (2 ∷ 2 ∷ 15 ∷ 4 ∷ []) 1 (frame 0 Empty (Object 0) ∷ []) ((Nothing ∷ Null ∷ []) ∷ []))
    (stored_at (a_field 0 1) 2 11 ∷ stored_at (a_field 0 1) 1 5 ∷ []))
    ∷ old_tried (two_faults 2 1) (replicate 9 0)
    (old_shown (shown (2 ∷ 1 ∷ 15 ∷ 4 ∷ []) 1 (frame 0 Empty (Object 0) ∷ []) ((Nothing ∷ Nothing ∷ []) ∷ []))
    (stored_at (a_field 0 2) 2 11 ∷ stored_at (a_field 0 1) 1 5 ∷ []))
    ∷ [])
    -- a value stored over a fault is what is read
    ∷ (old_tried mended (replicate 9 0)
    (old_shown (shown (1 ∷ 5 ∷ []) 0 (frame 0 Empty (Int 5) ∷ []) ((Int 5 ∷ []) ∷ [])) (stored_at (a_field 0 1) 1 5 ∷ []))
    ∷ [])
    -- each cell holds its own fault, a value over it is what is read, and a cell is no field
    ∷ (old_tried (two_arguments 1) (replicate 9 0)
    (old_shown (shown (2 ∷ 1 ∷ 0 ∷ 3 ∷ []) 1 (frame 0 Empty Unset ∷ frame 1 (From 0) Nothing ∷ frame 2 (From 1) Nothing ∷ []) [])
    (stored_at (a_cell 2) 2 5 ∷ stored_at (a_cell 1) 1 10 ∷ []))
    ∷ old_tried (two_arguments 2) (replicate 9 0)
    (old_shown (shown (2 ∷ 2 ∷ 0 ∷ 3 ∷ []) 1 (frame 0 Empty Unset ∷ frame 1 (From 0) Nothing ∷ frame 2 (From 1) Nothing ∷ []) [])
    (stored_at (a_cell 2) 2 5 ∷ stored_at (a_cell 1) 1 10 ∷ []))
    ∷ old_tried mended_cell (replicate 9 0)
    (old_shown (shown (1 ∷ 4 ∷ []) 0 (frame 0 Empty (Int 5) ∷ frame 1 (From 0) (Int 5) ∷ []) []) (stored_at (a_cell 1) 1 8 ∷ []))
    ∷ old_tried cell_and_field (replicate 9 0)
    (old_shown (shown (2 ∷ 1 ∷ 7 ∷ 4 ∷ []) 1 (frame 0 Empty Nothing ∷ frame 1 (From 0) (Object 0) ∷ []) ((Nothing ∷ []) ∷ []))
    (stored_at (a_field 0 1) 2 5 ∷ stored_at (a_cell 0) 1 15 ∷ []))
    ∷ old_tried two_objects (replicate 9 0)
    (old_shown (shown (2 ∷ 1 ∷ 16 ∷ 6 ∷ []) 1 (frame 0 Empty (Object 0) ∷ frame 1 (From 0) (Object 1) ∷ []) ((Nothing ∷ []) ∷ (Nothing ∷ []) ∷ []))
    (stored_at (a_field 1 1) 2 12 ∷ stored_at (a_field 0 1) 1 5 ∷ []))
    ∷ [])
    -- an argument that is unset is stored as fault 8 (order 5)
    ∷ (old_tried (called_with 5 7) (replicate 6 0)
    (old_shown (shown (1 ∷ 6 ∷ []) 0 (frame 0 Empty (Int 1) ∷ frame 1 (From 0) (Proc 1 (From 1)) ∷ frame 0 (From 1) Nothing ∷ []) []) (stored_at (a_cell 2) 8 4 ∷ []))
    ∷ [])
    ∷ []

-- the same scripts by the rules: each stops at the first of those steps, room or none, with the fault that was stored there
unfoldable pub now_entries : List (List Tried)
now_entries =
    (tried argument_faults (replicate 9 0) (shown (2 ∷ 1 ∷ 7 ∷ 2 ∷ []) 1 (frame 0 Empty (Proc 2 (From 0)) ∷ []) []) ∷ [])
    ∷ (tried stored_twice (replicate 9 0) (shown (2 ∷ 1 ∷ 5 ∷ 2 ∷ []) 2 (frame 0 Empty (Object 0) ∷ []) ((Null ∷ Null ∷ []) ∷ [])) ∷ [])
    ∷ (begun (within (script_of calling) 10 (many_frames 1023) (0 ∷ [])) (shown (2 ∷ 1 ∷ 9 ∷ 0 ∷ []) 1 (frames_of 1023) [])
    ∷ begun (within (script_of callee_faults) 4 (many_frames 1023) (0 ∷ [])) (shown (2 ∷ 1 ∷ 2 ∷ 0 ∷ []) 1 (frames_of 1023) [])
    ∷ begun (within (script_of calling) 10 (many_frames 1022) (0 ∷ [])) (shown (2 ∷ 1 ∷ 9 ∷ 0 ∷ []) 1 (frames_of 1022) [])
    ∷ [])
    ∷ []

-- ---- they hold

-- every definition that an old run computes by, besides those of `opens`
unfoldable pub old-opens : Unit {0}
unfolding same_place newest_at unfaulted raised value_or old_reads as_now storing old_eval others old_exec noted old_apply old_planned old_machine old_run values_of old_got old_want old_within
old-opens = tt

pub old-entries-hold : map (map old_got) old_entries ≡ map (map old_want) old_entries
unfolding old_entries show parts_of opens old-opens
old-entries-hold =
    told-so old_got old_want old_entries
    (refl  -- argument
    also refl  -- right side
    also refl  -- 1,024 frames
    also refl  -- nothing
    also refl  -- no such field
    also refl  -- a fault over a fault
    also refl  -- a value over a fault
    also refl  -- cells and objects apart
    also refl  -- unset
    also all_told)

pub now-entries-hold : map (map got) now_entries ≡ map (map want) now_entries
unfolding now_entries got want show parts_of within opens
now-entries-hold =
    told-so got want now_entries
    (refl  -- argument
    also refl  -- right side
    also refl  -- 1,024 frames
    also all_told)
