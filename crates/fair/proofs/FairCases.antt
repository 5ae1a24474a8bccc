-- Worked cases of the fair run: document 02, order 4. What must be picked was found by hand from the order's sentences, with commands on slips of paper:
-- letters stand for commands, a queue is written front first, and "A at 1" means that A is the movable command with one other to the left of it in
-- control, so that its choice is 1. No number of parts and no shifted position was used. The form is that of the module Cases of the crate
-- cases. Assumes nothing.
use Prim.Native.Nat.{ℕ}
use mathlib.Core.Path.{◌≡◌, refl}
use mathlib.Core.List.{List, [], ◌∷◌, map}
use lib.ListN.{replicate}
use Rattle.laws.specs.UpTo.{up_to}
use Rattle.rules.specs.declared.Chain.TheVariants.{Empty}
use Rattle.rules.specs.declared.Value.TheVariants.{Int, Unset}
use Rattle.rules.specs.State.{size, frame}
use Rattle.rules.specs.Script.{root_of}
use Rattle.rules.specs.Refusals.{check}
use Rattle.rules.specs.Run.{bare, machine}
use Rattle.rules.proofs.Opens.{opens, told-so, all_told, ◌also◌}
use Rattle.cases.proofs.Cases.{Shown, shown, show, parts_of, own_stacks, listed}
use Rattle.cases.proofs.CasesControl.{nested_atoms, left_atom, atom_faults}
use Rattle.fair.specs.FairRun.{leaves, width, up_from, line_of, first_line, shifted, renewed, pick_of, line_after, picks_on, picks_from, picks, fair}
use Rattle.fair.proofs.FairScripts.{three_abreast, two_from_one, first_ends, loop_beside, after_parallel, atom_in_loop, loop_beside_atoms, atom_between, fault_beside}

-- the choices picked, and what is told of the run
pub data Turned : Type 0 where
  turned : List ℕ → Shown → Turned

pub data Taken : Type 0 where
  taken : List ℕ → ℕ → Turned → Taken  -- bytes, room in the list, what must come of it

unfoldable pub got_turned : Taken → Turned
got_turned (taken img n t) = turned (picks (machine img) n bare (root_of img)) (show (check [] size img) (fair (machine img) n bare (root_of img)))

unfoldable pub want_turned : Taken → Turned
want_turned (taken img n t) = t

-- ---- the entries

unfoldable pub fair_entries : List (List Taken)
fair_entries =
    -- `{A || B}`, each a var around one command, A' and B'. Queue A B. A at 0, leaves A': B A'. B at 1, leaves B': A' B'. A' at 0, ends. B' at 0.
    (taken own_stacks 9 (turned (0 ∷ 1 ∷ 0 ∷ 0 ∷ []) (shown (1 ∷ 4 ∷ []) 0 (frame 0 Empty (Int 1) ∷ frame 0 Empty (Int 2) ∷ []) [])) ∷ [])
    -- Three such, A B C. A at 0: B C A'. B at 1: C A' B'. C at 2: A' B' C'. A' at 0 ends, so does B', then at 0, and C', then at 0.
    ∷ (taken three_abreast 9 (turned (0 ∷ 1 ∷ 2 ∷ 0 ∷ 0 ∷ 0 ∷ []) (shown (1 ∷ 6 ∷ []) 0 (replicate 3 (frame 0 Empty Unset)) [])) ∷ [])
    -- `{A || {B || C}}`, A a var around two side by side. A at 0 leaves A₁ and A₂, left to right to the back: B C A₁ A₂, while control is A₁ A₂ B C. B at 2,
    -- ends. C at 2, ends. A₁ at 0, A₂ at 0.
    ∷ (taken two_from_one 9 (turned (0 ∷ 2 ∷ 2 ∷ 0 ∷ 0 ∷ []) (shown (1 ∷ 5 ∷ []) 0 (frame 0 Empty Unset ∷ []) [])) ∷ [])
    -- A part that ends while others wait, `{A || {B || C}}`: A at 0, ends; B and C keep their places: B C. B at 0, leaves B': C B'. C at 1: B' C'. B' at 0,
    -- C' at 0.
    ∷ (taken first_ends 9 (turned (0 ∷ 0 ∷ 1 ∷ 0 ∷ 0 ∷ []) (shown (1 ∷ 5 ∷ []) 0 (replicate 2 (frame 0 Empty Unset)) [])) ∷ [])
    -- A loop W beside V, a var around K₁, then K₂; the loop's body is S. W at 0: V S. V at 1: S K₁. S at 0, and the loop is opened again: K₁ W. K₁ at 1: W K₂.
    -- W at 0: K₂ S. K₂ at 1, ends: S. S at 0: W. W at 0: S. The list is full: end 4, with S and the loop that waits.
    ∷ (taken loop_beside 8 (turned (0 ∷ 1 ∷ 0 ∷ 1 ∷ 0 ∷ 1 ∷ 0 ∷ 0 ∷ []) (shown (4 ∷ 8 ∷ []) 2 (frame 0 Empty Unset ∷ []) [])) ∷ [])
    -- A sequence after a parallel, `{{{A || B}; {C || D}} || V}`, V a var around K₁, then K₂. A at 0, ends: B V. B at 0, ends, and C and D are opened: V C D,
    -- while control is C D V. V at 2: C D K₁. C at 0, D at 0, then K₁ at 0 and K₂ at 0.
    ∷ (taken after_parallel 9 (turned (0 ∷ 0 ∷ 2 ∷ 0 ∷ 0 ∷ 0 ∷ 0 ∷ []) (shown (1 ∷ 7 ∷ []) 0 (frame 0 Empty Unset ∷ []) [])) ∷ [])
    -- A loop W around an atom A of two commands, beside a loop X with the body S. W at 0: X A. X at 1: A S. A at 0 enters, the leftmost at 0, the next at 0 and the
    -- atom is left, W opened: one turn, S W. S at 1: W X. The same again: 0, 1, then 0 0 0, then 1. Full, both loops in control.
    ∷ (taken atom_in_loop 12 (turned (0 ∷ 1 ∷ 0 ∷ 0 ∷ 0 ∷ 1 ∷ 0 ∷ 1 ∷ 0 ∷ 0 ∷ 0 ∷ 1 ∷ []) (shown (4 ∷ 12 ∷ []) 3 [] [])) ∷ [])
    -- The loop W with the body S on the left, the loop X around an atom A of two side by side on the right. W at 0: X S. X at 1: S A. S at 0: A W. A at 1 enters;
    -- inside, the left one at 0, the right one at 0, X opened: W X. W at 0: X S. X at 1: S A. S at 0: A W.
    -- Full, with W, A and the loop behind A.
    ∷ (taken loop_beside_atoms 9 (turned (0 ∷ 1 ∷ 0 ∷ 1 ∷ 0 ∷ 0 ∷ 0 ∷ 1 ∷ 0 ∷ []) (shown (4 ∷ 9 ∷ []) 4 [] [])) ∷ [])
    -- `{{A || B} || C}`, B an atom, A and C vars. A at 0: B C A'. B at 1 enters, its inside at 0, and it is left: C A'. C at 1: A' C'. A' at 0, C' at 0.
    ∷ (taken atom_between 9 (turned (0 ∷ 1 ∷ 0 ∷ 1 ∷ 0 ∷ 0 ∷ []) (shown (1 ∷ 6 ∷ []) 0 (replicate 2 (frame 0 Empty Unset)) [])) ∷ [])
    -- What an atom leaves: `{{A; {B || C}} || D}` in a var V. V at 0: A D. A at 0 enters, its inside at 0 is its last, B and C are opened: D B C. D at 2, so x is 4;
    -- B at 0, C at 0 and x is 3.
    ∷ (taken left_atom 9 (turned (0 ∷ 0 ∷ 0 ∷ 2 ∷ 0 ∷ 0 ∷ []) (shown (1 ∷ 6 ∷ []) 0 (frame 0 Empty (Int 3) ∷ []) [])) ∷ [])
    -- An atom in an atom is in its turn. V at 0: A D. A at 0, the atom inside at 0, its two at 0 and 0: D, at 0, and x is 3.
    ∷ (taken nested_atoms 9 (turned (replicate 6 0) (shown (1 ∷ 6 ∷ []) 0 (frame 0 Empty (Int 3) ∷ []) [])) ∷ [])
    -- A fault: V at 0: A F. A at 0, leaves B: F B. F at 1, and the run stops; its choice is in the list, its step isn't counted. With room for two choices the
    -- list is full before; with none at the start. A longer list changes nothing.
    ∷ (taken fault_beside 3 (turned (0 ∷ 0 ∷ 1 ∷ []) (shown (2 ∷ 1 ∷ 5 ∷ 2 ∷ []) 3 (frame 0 Empty Unset ∷ []) []))
    ∷ taken fault_beside 9 (turned (0 ∷ 0 ∷ 1 ∷ []) (shown (2 ∷ 1 ∷ 5 ∷ 2 ∷ []) 3 (frame 0 Empty Unset ∷ []) []))
    ∷ taken fault_beside 2 (turned (0 ∷ 0 ∷ []) (shown (4 ∷ 2 ∷ []) 3 (frame 0 Empty Unset ∷ []) []))
    ∷ taken fault_beside 0 (turned [] (shown (4 ∷ 0 ∷ []) 1 [] []))
    ∷ [])
    -- A fault inside an atom: V at 0: A D. A at 0 enters, its inside at 0 faults; the entered atom, its inside and D stand.
    ∷ (taken atom_faults 9 (turned (0 ∷ 0 ∷ 0 ∷ []) (shown (2 ∷ 1 ∷ 2 ∷ 2 ∷ []) 4 (frame 0 Empty Unset ∷ []) [])) ∷ [])
    -- Done with the last choice that the list has room for is done; one fewer is end 4.
    ∷ (taken listed 2 (turned (0 ∷ 0 ∷ []) (shown (1 ∷ 2 ∷ []) 0 (frame 0 Empty (Int 1) ∷ []) []))
    ∷ taken listed 1 (turned (0 ∷ []) (shown (4 ∷ 1 ∷ []) 1 (frame 0 Empty Unset ∷ []) []))
    ∷ [])
    ∷ []

-- ---- they hold

-- every definition that the fair run computes by, besides those of `opens`
unfoldable pub fair-opens : Unit {0}
unfolding up_to leaves width up_from line_of first_line shifted renewed pick_of line_after picks_on picks_from picks fair got_turned want_turned
fair-opens = tt

pub fair-entries-hold : map (map got_turned) fair_entries ≡ map (map want_turned) fair_entries
unfolding fair_entries show parts_of opens fair-opens
fair-entries-hold =
    told-so got_turned want_turned fair_entries
    (refl  -- two side by side
    also refl  -- three
    also refl  -- two from one
    also refl  -- one that ends
    also refl  -- a loop beside a command
    also refl  -- a sequence after a parallel
    also refl  -- an atom in a loop
    also refl  -- a loop beside it
    also refl  -- an atom between two
    also refl  -- what an atom leaves
    also refl  -- an atom in an atom
    also refl  -- a fault
    also refl  -- a fault in an atom
    also refl  -- the last choice
    also all_told)
