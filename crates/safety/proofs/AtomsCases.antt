-- The atom sentence, computed. Case h of document 01, `var x; {{x = 0; atom({x = x - -1; x = x - -1})} || x = 0}`, with
-- its atom entered: the neighbour at node 14 can't be picked, the commands that move are those at nodes 5 and 9, and
-- after them the neighbour stands alone. An atom to the right is entered by choice 1, and its neighbour waits too. And
-- of two nested atoms the inner one is the innermost. Assumes nothing.
use Prim.Native.Nat.{ℕ, zero, suc}
use mathlib.Core.Path.{◌≡◌, refl}
use mathlib.Core.Option.{Option, none, some, none-ne-some}
use mathlib.Core.List.{[], ◌∷◌}
use native.Mathlib.Omega.{arith}
use lib.ListN.{get_elem?}
use Rattle.rules.specs.declared.Chain.TheVariants.{Empty, From}
use Rattle.rules.specs.declared.Value.TheVariants.{Null, Int}
use Rattle.rules.specs.declared.Effect.{Effect}
use Rattle.rules.specs.State.{Store, frame}
use Rattle.rules.specs.Control.{Control, command, followed, beside, entered, atom_in, move, movable}
use Rattle.rules.specs.Paper.{left_moves, the-command, left-goes-on, left-ends}
use Rattle.rules.specs.Step.{Machine, mini_oo}
use Rattle.rules.specs.Script.{script_of}
use Rattle.rules.specs.Run.{run_script}
use Rattle.rules.proofs.Opens.{opens}
use Rattle.cases.proofs.Cases.{in_atom}
use Rattle.cases.proofs.CasesControl.{nested_atoms, right_atom}
use Rattle.safety.specs.Reaches.{Reaches, stays, goes}
use Rattle.safety.specs.Atoms.{Innermost, InPlace, Sealed, AtomMoves}
use Rattle.safety.specs.Inside.{is-entered, in-left, in-entered}
use Rattle.safety.proofs.AtomsNodes.{only-that-atom-moves}
use Rattle.safety.proofs.Entered.{innermost-once, never-the-outer}
use Rattle.safety.proofs.AtomsUsed.{moved, block-stands, no-other-moves, block-moves, block-left}
use Rattle.safety.proofs.NotVacuous.{frames_only, h-sealed}

-- the one frame, with its cell x
abbrev holding : ℕ → Store
holding x = frames_only (frame 0 Empty (Int x) ∷ [])

abbrev at : ℕ → Control
at n = command n (From 0)

-- where only the command at node n can move, no other is picked
no_other : (n k : ℕ) → (n ≡ k → ⊥) → (j : ℕ) → get_elem? (move n (From 0) ∷ []) j ≡ some (move k (From 0)) → ⊥
no_other n k f zero e = f (cc)
no_other n k f (suc j) e = none-ne-some (move k (From 0)) e

-- ---- case h

abbrev machine : Machine Store Effect
machine = mini_oo (script_of in_atom)

-- before the atom moves, and after
abbrev before : Control
before = beside (at 11) (at 14)

abbrev block : Control
block = followed (at 5) 9 (From 0)

abbrev after : Control
after = beside (entered block) (at 14)

-- with nothing in place of the atom, its neighbour stands alone
neighbour-alone : InPlace machine.cmd_at before 0 none (some (at 14))
unfolding atom_in left_moves
neighbour-alone = left-ends refl (the-command refl)

-- the block alone: its first command, and its second, with which it ends
first_alone : Reaches machine (holding 1) (some (at 9)) (0 ∷ []) (holding 0) (some block)
unfolding opens
first_alone = goes refl stays

both-alone : Reaches machine (holding 2) none (0 ∷ 0 ∷ []) (holding 0) (some block)
unfolding opens
both-alone = goes refl (goes refl stays)

-- the whole, with the same choices; and with one more, the neighbour's
h-first : Reaches machine (holding 1) (some (beside (entered (at 9)) (at 14))) (0 ∷ []) (holding 0) (some after)
unfolding opens
h-first = goes refl stays

h-to-end : Reaches machine (holding 0) none (0 ∷ 0 ∷ 0 ∷ []) (holding 0) (some after)
unfolding opens
h-to-end = goes refl (goes refl (goes refl stays))

-- after the first, x is as the block alone left it, and the atom stands where it stood, around what is left of it
second-in-place : InPlace machine.cmd_at before 0 (some (entered (at 9))) (some (beside (entered (at 9)) (at 14)))
unfolding atom_in left_moves
second-in-place = left-goes-on refl (the-command refl)

pub h-stands : (s : Store) (o : Option Control) → Reaches machine s o (0 ∷ []) (holding 0) (some after)
    → (s ≡ holding 1) × (o ≡ some (beside (entered (at 9)) (at 14)))
unfolding opens
h-stands =
    block-stands machine before 0 10 (From 0) (holding 0) (some after) h-sealed (0 ∷ []) (holding 1) (at 9) first_alone
    (some (beside (entered (at 9)) (at 14))) second-in-place

-- so, whatever the choice, the neighbour isn't picked
pub h-neighbour-waits : (k : ℕ) → get_elem? (movable (beside (entered (at 9)) (at 14))) k ≡ some (move 14 (From 0)) → ⊥
unfolding opens
h-neighbour-waits =
    no-other-moves machine before 0 10 (From 0) (holding 0) (some after) h-sealed (0 ∷ []) (holding 1) (at 9) first_alone
    (holding 1) (beside (entered (at 9)) (at 14)) h-first (move 14 (From 0)) (no_other 9 14 (λ e. omega (arith, e)))

-- the commands that move from the step after the atom's to the one that leaves it
pub h-moved : (s : Store) (o : Option Control) (r : Reaches machine s o (0 ∷ 0 ∷ []) (holding 0) (some after))
    → moved machine r ≡ some (move 5 (From 0)) ∷ some (move 9 (From 0)) ∷ []
unfolding opens moved both-alone
h-moved s o r =
    block-moves machine before 0 10 (From 0) (holding 0) (some after) h-sealed (0 ∷ 0 ∷ []) (holding 2) none both-alone s o r

-- and then the neighbour stands alone, with x as the block left it
pub h-left : Reaches machine (holding 0) none (0 ∷ []) (holding 2) (some (at 14))
unfolding opens
h-left =
    block-left machine before 0 10 (From 0) (holding 0) (some after) h-sealed (0 ∷ 0 ∷ []) (0 ∷ []) (holding 2) both-alone
    (some (at 14)) neighbour-alone (holding 0) none h-to-end

-- ---- `var x; {x = 1 || atom({x = 2; x = 3})}` after 0: choice 1 enters the atom, at node 7, and node 1 waits

abbrev fresh : Store
fresh = frames_only (frame 0 Empty Null ∷ [])

right-atom-moves : AtomMoves (script_of right_atom) (beside (at 1) (at 7)) 1 6 (From 0)
unfolding opens
right-atom-moves = record { node = 7; picks = refl; number = 7; inner = (script_of right_atom).cmd_at 6; is = refl; inside = refl }

abbrev right-open : Control
right-open = beside (at 1) (entered (followed (at 3) 5 (From 0)))

pub right-sealed : Sealed (mini_oo (script_of right_atom)) (beside (at 1) (at 7)) 1 6 (From 0) fresh (some right-open)
unfolding opens
right-sealed =
    only-that-atom-moves (script_of right_atom) fresh (beside (at 1) (at 7)) 1 6 (From 0) (tt, tt, tt) right-atom-moves fresh
    (some right-open) refl

pub right-neighbour-waits : (k : ℕ) → get_elem? (movable right-open) k ≡ some (move 1 (From 0)) → ⊥
unfolding opens
right-neighbour-waits =
    no-other-moves (mini_oo (script_of right_atom)) (beside (at 1) (at 7)) 1 6 (From 0) fresh (some right-open) right-sealed [] fresh
    (followed (at 3) 5 (From 0)) stays fresh right-open stays (move 1 (From 0)) (no_other 3 1 (λ e. omega (arith, e)))

-- ---- `var x; {atom(atom({x = 1 || x = 2})) || x = 3}` after 0 0 0: both atoms are entered

abbrev nested : Control
nested = beside (entered (entered (beside (at 1) (at 3)))) (at 8)

nested-reached : (run_script nested_atoms (0 ∷ 0 ∷ 0 ∷ [])).control ≡ some nested
unfolding opens
nested-reached = refl

pub nested-innermost : (x : Innermost nested) → x.inner ≡ beside (at 1) (at 3)
unfolding atom_in
nested-innermost x =
    innermost-once nested (tt, (tt, tt, tt), tt) x
    (record { inner = beside (at 1) (at 3); stands = in-left (in-entered is-entered); calm = refl })

pub nested-not-outer : (x : Innermost nested) → x.inner ≡ entered (beside (at 1) (at 3)) → ⊥
nested-not-outer = never-the-outer (entered (beside (at 1) (at 3))) is-entered
