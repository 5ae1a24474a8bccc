-- What NoneStarves supposes is met: `while true {skip || skip}` runs for ever, whatever room the list has, and no atom is entered; so each of the two
-- that stand side by side after the first step moves. Assumes nothing.
use Prim.Native.Nat.{ℕ, zero, suc}
use mathlib.Core.Path.{◌≡◌, refl, subst}
use mathlib.Core.Bool.{false, cond}
use mathlib.Core.Option.{none, some, some-injective}
use mathlib.Core.List.{[], ◌∷◌}
use native.Mathlib.Omega.{arith}
use lib.Dec.{eqb}
use Rattle.laws.specs.UpTo.{up_to}
use Rattle.rules.specs.declared.Chain.TheVariants.{Empty}
use Rattle.rules.specs.State.{Store, empty}
use Rattle.rules.specs.Script.{Script}
use Rattle.rules.specs.Syntax.{skip, while, par, is_true, cmd_no}
use Rattle.rules.specs.Eval.{◌>>=◌, test_by}
use Rattle.rules.specs.Control.{Control, command, followed, beside, parts, fits, opened, atom_in, among, movable, goes_to}
use Rattle.rules.specs.Step.{side, and_then, remains, both, put, Machine, judged, chosen, plan, follow, step, exec_by, apply, short_of, with_room, planned, mini_oo}
use Rattle.rules.specs.Run.{ran, onward, run_from, bare, begins, run}
use Rattle.rules.proofs.Runs.{run-used}
use Rattle.fair.specs.FairRun.{leaves, width, up_from, Line, line_of, first_line, shifted, renewed, pick_of, line_after, picks_on, picks_from, picks, fair}
use Rattle.fair.proofs.Picked.{picks-full, run_on}
use Rattle.fair.proofs.Ending.{fair-start}
use Rattle.fair.proofs.NoneStarves.{GoesCalm, MovesLater, none-starves}

-- ---- a run that never leaves some states, each with its line

module _ {S E : Type 0} (m : Machine S E) (Round : S → Control → Line → Type 0) where
  pub record Onward (s : S) (t : Control) (l : Line) : Type 0 where
    pub calm : atom_in t ≡ false
    pub store : S
    pub control : Control
    pub line : Line
    pub steps : step m s t (pick_of (atom_in t) l) ≡ goes_to store (some control)
    pub is-line : line_after (atom_in control) l control ≡ some line
    pub round : Round store control line

  pub goes-round : ((s : S) (t : Control) (l : Line) → Round s t l → Onward s t l)
      → (n k : ℕ) (s : S) (t : Control) (l : Line)
      → Round s t l
      → GoesCalm (run_from m (picks_from m n s (some t) (some l)) k s (some t))
  unfolding ran
  goes-round on zero k s t l h =
      rw (picks-full m s (some t) (some l), run-used m k s t)
      (record { goes = refl; calm = λ u e. subst (λ (v : Control). atom_in v ≡ false) (some-injective t u e) (on s t l h).calm })
  goes-round on (suc n) k s t l h =
      let x = on s t l h in
      rw (run_on m n s t l k x.store x.control x.steps, x.is-line) (goes-round on n (suc k) x.store x.control x.line x.round)

-- ---- the loop

pub loop_script : Script
loop_script =
    record {
      fields = 0;
      nodes = 5;
      names = 0;
      cmd_at = λ n. cond (eqb n 4) (while 4 (is_true 0) (par 3 (skip 1) (skip 2))) (cond (eqb n 3) (par 3 (skip 1) (skip 2)) (skip n));
      proc_at = λ n. none;
    }

-- in the queue: the left one or the only one; the left one, then the right one
alone : Line
alone = record { front = 0; rest = []; count = 1 }

both-wait : Line
both-wait = record { front = 0; rest = 1 ∷ []; count = 2 }

-- the loop; both its commands, and it waits; the right one
data Loop : Store → Control → Line → Type 0 where
  loops : Loop empty (command 4 Empty) alone
  two : Loop empty (followed (beside (command 1 Empty) (command 2 Empty)) 4 Empty) both-wait
  one : Loop empty (followed (command 2 Empty) 4 Empty) alone

loop-on : (s : Store) (t : Control) (l : Line) → Loop s t l → Onward (mini_oo loop_script) Loop s t l
unfolding loop_script alone both-wait opened atom_in among movable side and_then remains both put fits parts judged chosen plan follow step exec_by apply short_of with_room planned mini_oo test_by ◌>>=◌ cmd_no up_to leaves width up_from line_of shifted renewed pick_of line_after
loop-on _ _ _ loops =
    record {
      calm = refl;
      store = empty;
      control = followed (beside (command 1 Empty) (command 2 Empty)) 4 Empty;
      line = both-wait;
      steps = refl;
      is-line = refl;
      round = two;
    }
loop-on _ _ _ two =
    record { calm = refl; store = empty; control = followed (command 2 Empty) 4 Empty; line = alone; steps = refl; is-line = refl; round = one }
loop-on _ _ _ one = record { calm = refl; store = empty; control = command 4 Empty; line = alone; steps = refl; is-line = refl; round = loops }

-- ---- so it runs for ever, and none starves

pub loops-for-ever : (n : ℕ) → GoesCalm (fair (mini_oo loop_script) n bare 4)
unfolding loop_script mini_oo alone opened begins parts first_line line_of up_from up_to width leaves
loops-for-ever n =
    let few : parts (begins (mini_oo loop_script) bare 4) ≡ 1 = refl in
    rw (fair-start (mini_oo loop_script) n bare 4 (omega arith)) (goes-round (mini_oo loop_script) Loop loop-on n 0 empty (command 4 Empty) alone loops)

-- after the first step both stand side by side, and the right one moves
pub right-one-moves : MovesLater (mini_oo loop_script) bare 4 1 (followed (beside (command 1 Empty) (command 2 Empty)) 4 Empty) 1
unfolding loop_script opened atom_in among movable side and_then remains both put fits parts judged chosen plan follow step exec_by apply short_of with_room planned mini_oo test_by ◌>>=◌ cmd_no up_to leaves width up_from line_of shifted renewed pick_of line_after begins first_line run run_from onward ran picks_on picks_from picks fair
right-one-moves = none-starves (mini_oo loop_script) bare 4 loops-for-ever 1 (followed (beside (command 1 Empty) (command 2 Empty)) 4 Empty) refl 1 (omega arith)
