-- "A stop in mid-run leaves the workspace as the last finished step left it": a run of n steps leaves what the run over its
-- first n choices leaves, and of those choices each was a step. For any machine. Assumes nothing.
use Prim.Native.Nat.{ℕ, ◌+◌, ◌<◌, ◌≤◌}
use mathlib.Core.Path.{◌≡◌, refl, sym, subst, ◌∙◌}
use mathlib.Core.Bool.{Bool, true, false, cond}
use mathlib.Core.Option.{Option, none, some}
use mathlib.Core.Logic.{◌⊎◌, inl, inr}
use mathlib.Core.List.{List, []}
use native.Mathlib.Omega.{arith}
use lib.ListN.{length, take}
use lib.Dec.{leb}
use borrow.Author.Tests.{le-leb, lt-leb, leb-true, leb-false}
use Rattle.rules.specs.declared.End.TheVariants.{UsedUp, Stopped}
use Rattle.rules.specs.declared.Stop.TheVariants.{Full}
use Rattle.rules.specs.Control.{Control, parts, fits}
use Rattle.rules.specs.Step.{Machine}
use Rattle.rules.specs.Run.{Ran, ran, run_from, run, begins, machine, start, run_script, bare, Start}
use Rattle.rules.specs.Script.{root_of}
use Rattle.rules.specs.declared.Verdict.{Verdict}
use Rattle.rules.specs.declared.Verdict.TheVariants.{Accepted, Refused}
use Rattle.rules.specs.Refusals.{check}
use Rattle.rules.specs.State.{Store, empty, most_parts}
use Rattle.words.specs.Lent.{words_after_run, words_after}
use Rattle.safety.proofs.Ends.{run-leaves}
use Rattle.safety.specs.Reaches.{Left}
use Rattle.safety.proofs.SoFar.{left-exactly}

-- the same state, and as many steps
pub record SameState {S : Type 0} (a b : Ran S) : Type 0 where
  pub store : a.store ≡ b.store
  pub control : a.control ≡ b.control
  pub steps : a.steps ≡ b.steps

same : {S : Type 0} (a : Ran S) → SameState a a
same a = record { store = refl; control = refl; steps = refl }

module _ {S E : Type 0} (m : Machine S E) where
  from : (cs : List ℕ) (k : ℕ) (s : S) (o : Option Control) (n : ℕ) → (run_from m cs k s o).steps ≡ k + n
      → SameState (run_from m (take n cs) k s o) (run_from m cs k s o)
  from cs k s o n e =
      let y = (left-exactly m cs k s o (run_from m cs k s o)).0 (run-leaves m cs k s o) in
      let x = y.2.stood in
      let is : y.0 ≡ n = omega (arith, e, y.1) in
      subst (λ j. SameState (run_from m (take j cs) k s o) (run_from m cs k s o)) is
      (record { store = x.store; control = x.control; steps = x.steps ∙ sym y.1 })

  -- from the control that the root is opened to
  begun : (s : S) (o : Control) (b : Bool) (cs : List ℕ) (stop : Ran S)
      → SameState (cond b (run_from m (take (cond b (run_from m cs 0 s (some o)) stop).steps cs) 0 s (some o)) stop)
      (cond b (run_from m cs 0 s (some o)) stop)
  begun s o true cs stop = from cs 0 s (some o) (run_from m cs 0 s (some o)).steps (omega arith)
  begun s o false cs stop = same stop

  whole : (st : Start S) (root : ℕ) (cs : List ℕ) → SameState (run m st root (take (run m st root cs).steps cs)) (run m st root cs)
  unfolding run ran
  whole st root cs = begun st.store (begins m st root) (fits (some (begins m st root))) cs _

pub last_step : (img choices : List ℕ) → SameState (run_script img (take (run_script img choices).steps choices)) (run_script img choices)
unfolding run_script
last_step img choices = whole (machine img) bare (root_of img) choices

words : (v : Verdict) (a b : Ran Store) (lent : List ℕ) → SameState a b → words_after_run v b lent ≡ words_after_run v a lent
unfolding words_after_run
words Accepted a b lent l = rw (l.store, l.control)
words (Refused k p) a b lent l = refl

pub last-words : (img choices lent : List ℕ) → words_after img choices lent ≡ words_after img (take (run_script img choices).steps choices) lent
unfolding words_after
last-words img choices lent =
    words (check [] (length lent) img) (run_script img (take (run_script img choices).steps choices)) (run_script img choices) lent (last_step img choices)

-- a count is within a limit, or past it
pub fits-or-not : (count limit : ℕ) → (count ≤ limit) ⊎ (limit < count)
fits-or-not count limit = go (leb count limit) refl
  where
    go : (b : Bool) → leb count limit ≡ b → (count ≤ limit) ⊎ (limit < count)
    go true e = inl (leb-true _ _ e)
    go false e = inr (leb-false _ _ e)

-- a root that is too large as opened: no step, and nothing is left
pub too_large : (img choices : List ℕ) → most_parts < parts (start img)
    → run_script img choices ≡ ran (Stopped (Full 3)) 0 empty none
unfolding run_script run fits begins
too_large img choices h =
    let z : leb (parts (start img)) most_parts ≡ false = lt-leb (parts (start img)) most_parts h in
    rw z

-- the state that a run leaves is reached from the start by its first choices, one step each (`Left`: those used, the rest, and the count)
pub reached : (img choices : List ℕ) → parts (start img) ≤ most_parts
    → Left (machine img) choices 0 empty (some (start img)) (run_script img choices)
unfolding run_script run fits begins
reached img choices h =
    let z : leb (parts (start img)) most_parts ≡ true = le-leb (parts (start img)) most_parts h in
    rw z (run-leaves (machine img) choices 0 empty (some (start img)))

-- before the first choice: no frame, no object, and the root opened
pub started : (img : List ℕ) → parts (start img) ≤ most_parts
    → run_script img [] ≡ ran UsedUp 0 empty (some (start img))
unfolding run_script run run_from fits begins
started img h =
    let z : leb (parts (start img)) most_parts ≡ true = le-leb (parts (start img)) most_parts h in
    rw z
