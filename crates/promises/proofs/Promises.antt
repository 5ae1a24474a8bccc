-- All that we promise, on one page, in the order and the words of the demands (document 00). `Checks`, `Runs` and `Traces` are
-- the contracts of `check`, `run` and `trace` (the module Statements of crates/words/specs); what is promised holds of
-- whatever satisfies them, and no function has a `requires`: nothing is asked of the caller. The proofs are elsewhere. `img` is the
-- script's bytes, as document 01 calls them its image; the premise `Bytes` is what a slice of bytes is. Assumes nothing.
use Prim.Native.Nat.{ℕ, ◌<◌, ◌≤◌}
use mathlib.Core.Path.{◌≡◌, sym, ap, subst, subst₂, ◌∙◌}
use mathlib.Core.Bool.{true}
use mathlib.Core.Logic.{◌↔◌, ◌⊎◌}
use mathlib.Core.Option.{Option, some}
use mathlib.Core.List.{List, [], ◌∷◌, ◌++◌}
use lib.ListN.{length, get_elem?, take, drop, replicate}
use lib.Dec.{T}
use Rattle.rules.specs.declared.Answer.{Answer}
use Rattle.rules.specs.declared.Chain.{Chain}
use Rattle.rules.specs.declared.Chain.TheVariants.{From}
use Rattle.rules.specs.declared.Frame.{Frame}
use Rattle.rules.specs.declared.Stop.TheVariants.{Full}
use Rattle.rules.specs.declared.Value.{Value}
use Rattle.rules.specs.declared.Value.TheVariants.{Nothing, Object, Proc, Unset}
use Rattle.rules.specs.declared.Verdict.{Verdict}
use Rattle.rules.specs.declared.Verdict.TheVariants.{Accepted, Refused}
use Rattle.rules.specs.Syntax.{Cmd}
use Rattle.rules.specs.Image.{nodes_of, node_at}
use Rattle.rules.specs.State.{size, Store, empty, Newest, most_parts, AnObject, frame_at, object_at, HasObject}
use Rattle.rules.specs.Script.{script_of, root_of, formal}
use Rattle.rules.specs.Refusals.{Reason, rule_of, First, check}
use Rattle.rules.specs.Published.{Bytes, Published}
use Rattle.rules.specs.Control.{Control, parts, move, movable, atom_in, Outcome, goes_to, stops, Room, room_no}
use Rattle.rules.specs.Eval.{Wrong, fault_no}
use Rattle.rules.specs.Paper.{Command, Makes}
use Rattle.rules.specs.Step.{step}
use Rattle.rules.specs.Run.{Ran, ran, run_from, machine, start, run_script, answer_of, bare}
use Rattle.rules.specs.Numbers.{kind_no, stop_no, stop_values, end_no, end_values, verdict_numbers, answer_numbers}
use Rattle.words.specs.Layout.{layout}
use Rattle.words.specs.Lent.{words_after_run, words_after, rows_after_run, rows_after}
use Rattle.words.specs.LaidOut as LaidOut
use Rattle.words.specs.Statements.{Checks, Runs, Traces}
use Rattle.safety.specs.Inside.{Waits}
use Rattle.safety.specs.Needs.{needs}
use Rattle.safety.specs.Found.{Borne, HeldIn}
use Rattle.safety.specs.Reaches.{Left}
use Rattle.safety.specs.Atoms.{AtomMoves, Sealed, Innermost}
use Rattle.safety.specs.Rooms.{NoRoom, ForRoom}
use Rattle.safety.specs.Numbered.{AFault, ARoom, ARefusal, OneTo, EndNumbered, VerdictNumbered, Numbered}
use Rattle.promises.specs.Saying.{Refuses, Ends, Accepts, StartFits, StartTooLarge, At}
use Rattle.rules.proofs.Reasons.{refused-only, refused-if}
use Rattle.rules.proofs.Accept.{accepted-published, published-accepted}
use Rattle.rules.proofs.Agree.{paper-if, paper-only, goes-exactly, room-exactly}
use Rattle.rules.proofs.AgreeCommand.{command-ruled}
use Rattle.rules.proofs.Good.{good}
use Rattle.rules.proofs.Runs.{script-resumes, script-finished, script-used-up}
use Rattle.rules.proofs.Numbers as Numbers
use Rattle.words.proofs.Contracted as Contracted
use Rattle.words.proofs.Starting.{start-zeros}
use Rattle.words.proofs.Decides.{decides}
use Rattle.holds.proofs.Fitting.{store-good}
use Rattle.safety.proofs.NumberedRows.{fault-numbers, room-numbers, refusal-numbers}
use Rattle.safety.proofs.Zero as Zero
use Rattle.safety.proofs.Zero.{no-verdict-is-zero, no-answer-is-zero}
use Rattle.safety.proofs.ReachesMoments.{run-moment}
use Rattle.safety.proofs.SoFar.{moment-run}
use Rattle.safety.proofs.RoomsRuns.{room-if, room-only}
use Rattle.safety.proofs.Demand3 as Demand3
use Rattle.safety.proofs.SafeUsed as SafeUsed
use Rattle.promises.proofs.Answers.{verdict-numbers-decide, accepts-only, accepts-if, four-used-up, refused-answer, answer-refused, accepted-answer, answer-ends, answer-room, room-answer}
use Rattle.promises.proofs.LastStep.{last_step, last-words, too_large, fits-or-not, reached, started}

-- ---- one answer: two results that satisfy a contract are equal

pub check-decides : (img : List ℕ) (words : ℕ) (v w : Verdict) → Checks img words v → Checks img words w → v ≡ w
check-decides = Contracted.check-decides

pub run-decides : (img choices lent : List ℕ) (a b : Answer) (ws us : List ℕ)
    → Runs img choices a lent ws → Runs img choices b lent us → (a ≡ b) × (ws ≡ us)
run-decides = Contracted.run-decides

pub trace-decides : (img choices lent rows : List ℕ) (a b : Answer) (ws us rs qs : List ℕ)
    → Traces img choices a lent ws rows rs → Traces img choices b lent us rows qs → (a ≡ b) × (ws ≡ us) × (rs ≡ qs)
trace-decides = Contracted.trace-decides

-- so what is promised of `run` is promised of `trace`
pub trace-runs : (img choices lent rows : List ℕ) (a : Answer) (ws rs : List ℕ) → Traces img choices a lent ws rows rs → Runs img choices a lent ws
trace-runs img choices lent rows a ws rs p = record { answer = p.answer; words = p.words }

-- what is said of numbers is said of the answer: numbers decide the answer, and the verdict, that they are of
pub numbers-decide : (a b : Answer) → answer_numbers a ≡ answer_numbers b → a ≡ b
numbers-decide = Numbers.numbers-decide

pub verdict-numbers-decide-it : (v w : Verdict) → verdict_numbers v ≡ verdict_numbers w → v ≡ w
verdict-numbers-decide-it = verdict-numbers-decide

-- ======== Demand 1

-- "Hand it a script file of arbitrary bytes and an arbitrary list of choices: it ends, with one of the numbered results"

-- check: no number where the script is accepted, or a refusal 1 to 10
pub demand-1-verdict : (img : List ℕ) (words : ℕ) (v : Verdict) → Checks img words v → VerdictNumbered (verdict_numbers v)
demand-1-verdict img words v c = subst (λ (w : Verdict). VerdictNumbered (verdict_numbers w)) (sym c.verdict) (no-verdict-is-zero words img)

-- the numbers of the tables: ten refusals, eight faults, three rooms
pub ten-refusals : (k : ℕ) → ARefusal k ↔ OneTo 10 k
ten-refusals = refusal-numbers

pub eight-faults : (k : ℕ) → AFault k ↔ OneTo 8 k
eight-faults = fault-numbers

pub three-rooms : (k : ℕ) → ARoom k ↔ OneTo 3 k
three-rooms = room-numbers

-- .. each of one row: a number means only that
pub one-refusal-a-number : (q r : Reason) → (rule_of q).number ≡ (rule_of r).number → q ≡ r
one-refusal-a-number = Numbers.one-refusal-a-number

pub one-fault-a-number : (v w : Wrong) → fault_no v ≡ fault_no w → v ≡ w
one-fault-a-number = Numbers.one-fault-a-number

pub one-room-a-number : (q r : Room) → room_no q ≡ room_no r → q ≡ r
one-room-a-number = Numbers.one-room-a-number

-- "A refused script gives the first reason in the fixed order and the place": check
pub demand-1-check-first-reason : (img : List ℕ) (words : ℕ) (v : Verdict) → Checks img words v
    → (k p : ℕ) → (verdict_numbers v ≡ (k ∷ p ∷ [])) ↔ First [] words img k p
unfolding verdict_numbers
demand-1-check-first-reason img words v c k p = (
  λ e. refused-only [] words img k p (sym c.verdict ∙ verdict-numbers-decide v (Refused k p) e),
  λ f. ap verdict_numbers (c.verdict ∙ refused-if [] words img k p f),
)

module _ (img choices lent : List ℕ) (a : Answer) (after : List ℕ) (runs : Runs img choices a lent after) where
  -- run: a refusal 1 to 10; or an end 1 to 5, with a fault 1 to 8 at a node of the script, or a room 1 to 3
  pub demand-1-numbered : Bytes img → Numbered (nodes_of img) (answer_numbers a)
  demand-1-numbered b = rw runs.answer (no-answer-is-zero (length lent) img b choices)

  pub demand-1-first-reason : (k p : ℕ) → Refuses a k p ↔ First [] (length lent) img k p
  demand-1-first-reason k p = rw runs.answer (
    λ e. refused-only [] (length lent) img k p (answer-refused (length lent) img choices k p e),
    λ f. refused-answer (length lent) img choices k p (refused-if [] (length lent) img k p f),
  )

  -- "and the lent workspace stays untouched"
  pub demand-1-untouched : (k p : ℕ) → First [] (length lent) img k p → after ≡ lent
  unfolding words_after words_after_run
  demand-1-untouched k p f = runs.words ∙ rw (refused-if [] (length lent) img k p f)

-- .. and so do the lent rows
pub demand-1-rows-untouched : (img choices lent rows : List ℕ) (a : Answer) (after rows' : List ℕ) → Traces img choices a lent after rows rows'
    → (k p : ℕ) → First [] (length lent) img k p → rows' ≡ rows
unfolding rows_after rows_after_run
demand-1-rows-untouched img choices lent rows a after rows' t k p f = t.rows ∙ rw (refused-if [] (length lent) img k p f)

module _ (img choices lent : List ℕ) (a : Answer) (after : List ℕ) (runs : Runs img choices a lent after) (accepts : Accepts (length lent) img) where
  accepted : check [] (length lent) img ≡ Accepted
  accepted = accepts-only (length lent) img accepts

  -- the workspace after the run over other choices
  lays : (cs : List ℕ) → words_after img cs lent ≡ layout (run_script img cs).store (run_script img cs).control ++ drop size lent
  unfolding words_after words_after_run
  lays cs = rw accepted

  -- "A stop in mid-run leaves the workspace as the last finished step left it": after n steps the words are those that the
  -- first n choices leave, each of which was a step
  pub demand-1-last-step : (e : ℕ) (values : List ℕ) (n : ℕ) → Ends a e values n
      → (after ≡ words_after img (take n choices) lent) × ((run_script img (take n choices)).steps ≡ n)
  demand-1-last-step e values n f =
      let counted = (answer-ends (length lent) img choices accepted e values n (ap answer_numbers (sym runs.answer) ∙ f)).2 in (
        runs.words ∙ subst (λ m. words_after img choices lent ≡ words_after img (take m choices) lent) counted (last-words img choices lent),
        subst (λ m. (run_script img (take m choices)).steps ≡ m) counted (last_step img choices).steps,
      )

  -- .. and that state is reached from the start by the choices used, one step each, as many as are counted
  pub demand-1-reached : StartFits img → Left (machine img) choices 0 empty (some (start img)) (run_script img choices)
  demand-1-reached h = reached img choices h

  -- .. so a stop with 0 steps leaves the start state: no frame, no object, and the root opened
  pub demand-1-no-step : StartFits img → (e : ℕ) (values : List ℕ) → Ends a e values 0 → after ≡ layout empty (some (start img)) ++ drop size lent
  unfolding ran
  demand-1-no-step h e values f =
      (demand-1-last-step e values 0 f).0 ∙ lays [] ∙ ap (λ (r : Ran Store). layout r.store r.control ++ drop size lent) (started img h)

  -- or the start has no room: a root that has more than 255 parts as opened: room 3 with 0 steps, and the workspace is zero throughout its size
  pub demand-1-too-large : StartTooLarge img → Ends a 3 (3 ∷ []) 0 × (after ≡ replicate size 0 ++ drop size lent)
  unfolding ran end_no end_values stop_no stop_values
  demand-1-too-large h =
      let e = too_large img choices h in (
        ap answer_numbers runs.answer ∙ subst (λ (r : Ran Store). Ends (answer_of (length lent) img choices) (end_no r.end) (end_values r.end) r.steps) e (accepted-answer (length lent) img choices accepted),
        runs.words
            ∙ lays choices
            ∙ ap (λ (r : Ran Store). layout r.store r.control ++ drop size lent) e
            ∙ ap (λ (l : List ℕ). l ++ drop size lent) start-zeros,
      )

pub start-fits-or-not : (img : List ℕ) → StartFits img ⊎ StartTooLarge img
start-fits-or-not img = fits-or-not (parts (start img)) most_parts

-- ======== Demand 2

-- "With workspace enough, a script is accepted exactly when the published layout and MiniOO scoping rules accept it."
pub demand-2-accepted : (img : List ℕ) → Bytes img → (words : ℕ) → size ≤ words → Accepts words img ↔ Published [] img
demand-2-accepted img b words h = (
  λ e. accepted-published [] words img b (accepts-only words img e),
  λ p. accepts-if words img (published-accepted [] words img h p),
)

-- "An accepted script then runs step for step as the published MiniOO rules with static scoping say, with our stated changes": at
-- every moment a step is made, or isn't, exactly as a rule says
pub demand-2-by-rule : (img : List ℕ) → Bytes img → (words : ℕ) → Accepts words img → (choices : List ℕ)
    → (s : Store) (t : Control) → At img choices s (some t)
    → (i : ℕ) (out : Outcome Store) → (step (machine img) s t i ≡ out) ↔ Makes (script_of img) s t i out
demand-2-by-rule img b words accepts choices s t x i out = (
  λ e. paper-only (script_of img) s t i e (λ f. Demand3.no-rule-is-missing words img b (accepts-only words img accepts) choices s t x i (e ∙ f)),
  λ d. paper-if (script_of img) s t i d,
)

-- .. and wherever a step is made it is a rule's, also where no run comes: a block's run alone (`Sealed`) is of such steps
pub made-by-rule : (img : List ℕ) (s : Store) (t : Control) (i : ℕ) (s' : Store) (o : Option Control)
    → (step (machine img) s t i ≡ goes_to s' o) ↔ Makes (script_of img) s t i (goes_to s' o)
made-by-rule img = goes-exactly (script_of img)

-- "same cells, same objects, same count of steps, same stop"
module _ (img choices lent : List ℕ) (a : Answer) (after : List ℕ) (runs : Runs img choices a lent after) (accepts : Accepts (length lent) img) where
  pub demand-2-answer : Ends a (end_no (run_script img choices).end) (end_values (run_script img choices).end) (run_script img choices).steps
  demand-2-answer = ap answer_numbers runs.answer ∙ accepted-answer (length lent) img choices (accepts-only (length lent) img accepts)

  pub demand-2-words : after ≡ layout (run_script img choices).store (run_script img choices).control ++ drop size lent
  unfolding words_after words_after_run
  demand-2-words = runs.words ∙ rw (accepts-only (length lent) img accepts)

-- each shorter list of choices has its own state: where they are used up, end 4, the run goes on from there with the later ones, and
-- its steps are as many as they; any other end stays as it is
pub demand-2-goes-on : (img first later : List ℕ) → end_no (run_script img first).end ≡ 4
    → (run_script img (first ++ later) ≡ run_from (machine img) later (run_script img first).steps (run_script img first).store (run_script img first).control)
    × ((run_script img first).steps ≡ length first)
demand-2-goes-on img first later e =
    let used = four-used-up (run_script img first).end e in
    (script-resumes img first later used, script-used-up img first used)

pub demand-2-stays : (img first later : List ℕ) → (end_no (run_script img first).end ≡ 4 → ⊥) → run_script img (first ++ later) ≡ run_script img first
unfolding end_no
demand-2-stays img first later n = script-finished img first later (λ e. n (ap end_no e))

-- ======== Demand 3: "Take an accepted script and any list of choices, and look at any moment from the start to the stop."

module _ (img : List ℕ) (are-bytes : Bytes img) (words : ℕ) (accepts : Accepts words img) (choices : List ℕ) where
  is-accepted : check [] words img ≡ Accepted
  is-accepted = accepts-only words img accepts

  laid_out : (cs : List ℕ) (s : Store) (o : Option Control) → At img cs s o → LaidOut.StateFits s o
  laid_out cs s o x =
      let safe = Demand3.always-safe words img are-bytes is-accepted cs s o x in
      store-good img (good [] words img is-accepted) s safe.store o safe.control

  -- what a run leaves is a moment of it
  pub demand-3-left : StartFits img → At img choices (run_script img choices).store (run_script img choices).control
  unfolding run_script
  demand-3-left h = run-moment (script_of img) bare (root_of img) choices h

  -- at every moment, when the choices so far are given, the words are the layout of just its store and control, after a step for each
  pub demand-3-words : (s : Store) (o : Option Control) (x : At img choices s o)
      → (lent : List ℕ) → length lent ≡ words → (a : Answer) (after : List ℕ) → Runs img x.used a lent after
      → (after ≡ layout s o ++ drop size lent) × ((run_script img x.used).steps ≡ length x.used)
  unfolding words_after words_after_run run_script
  demand-3-words s o x lent l a after runs =
      let r = moment-run (machine img) bare (root_of img) choices s o x in
      (runs.words ∙ rw (l, is-accepted, r.store, r.control), r.steps)

  -- .. and they decide the cells, the objects and the control: two moments with the same words are of one state
  pub demand-3-words-decide : (others : List ℕ) (s s' : Store) (o o' : Option Control) → At img choices s o → At img others s' o'
      → layout s o ≡ layout s' o' → (s ≡ s') × (o ≡ o')
  demand-3-words-decide others s s' o o' x y e = decides s s' o o' (laid_out choices s o x) (laid_out others s' o' y) e

  module _ (s : Store) (t : Control) (at : At img choices s (some t)) where
    -- "Every name the next step could need is found, on its own command's chain, in a cell that exists."
    pub needed-name-is-found : (i n : ℕ) (ch : Chain) (x : ℕ) → get_elem? (movable t) i ≡ some (move n ch) → T (needs ((script_of img).cmd_at n) x)
        → Borne s ch x
    needed-name-is-found = Demand3.needed-name-is-found words img are-bytes is-accepted choices s t at

    -- .. and no other name is needed: in any chain that bears those, a rule makes the command's step, or says why it isn't made
    pub needed-names-suffice : (i n : ℕ) (ch : Chain) → get_elem? (movable t) i ≡ some (move n ch)
        → (dh : Chain) → ((x : ℕ) → T (needs ((script_of img).cmd_at n) x) → Borne s dh x)
        → (out : Outcome Store) × Command (script_of img) s dh ((script_of img).cmd_at n) out
    needed-names-suffice i n ch p dh borne =
        command-ruled (script_of img) s dh ((script_of img).cmd_at n)
        (Demand3.needed-names-suffice words img are-bytes is-accepted choices s t at i n ch p dh borne)

    -- .. also for a command that waits
    pub waiting-name-is-found : (n : ℕ) (ch : Chain) (x : ℕ) → Waits t n ch → T (needs ((script_of img).cmd_at n) x) → Borne s ch x
    waiting-name-is-found = Demand3.waiting-name-is-found words img are-bytes is-accepted choices s t at

  -- the frame found is the newest of the chain that bears the name; it is there, and bears it
  pub found-frame-is-newest : (s : Store) (ch : Chain) (x : ℕ) (b : Borne s ch x)
      → Newest s x ch b.at × ((f : Frame) × (frame_at s b.at ≡ some f) × (f.name ≡ x))
  found-frame-is-newest s ch x b = (
    Demand3.found-frame-is-newest words img are-bytes is-accepted choices s ch x b,
    Demand3.found-frame-is-there words img are-bytes is-accepted choices s ch x b,
  )

  module _ (s : Store) (o : Option Control) (at : At img choices s o) where
    -- .. and a name that the body of a procedure held needs is its formal, or is found on the procedure's own chain
    pub body-name-is-found : (n : ℕ) (ch : Chain) → HeldIn s (Proc n ch) → (y : ℕ) (c : Cmd) → (script_of img).proc_at n ≡ some (formal y c)
        → (x : ℕ) → T (needs c x) → (y ≡ x) ⊎ Borne s ch x
    body-name-is-found = Demand3.body-name-is-found words img are-bytes is-accepted choices s o at

    -- "Every object and procedure held anywhere exists", and what is held is a value; anywhere is each cell and each field
    pub held-object-exists : (k : ℕ) → HeldIn s (Object k) → HasObject s k
    held-object-exists = Demand3.held-object-exists words img are-bytes is-accepted choices s o at

    -- a procedure: a proc node of the script, whose chain's frame is there, with its outer frames; and its body finds its names
    pub held-procedure-is-a-proc : (n : ℕ) (ch : Chain) → HeldIn s (Proc n ch) → (n < nodes_of img) × ((node_at img n).tag ≡ 7)
    held-procedure-is-a-proc n = SafeUsed.held-procedure-is-a-proc words img are-bytes is-accepted choices s o at n

    pub held-procedure-has-its-frame : (n k : ℕ) → HeldIn s (Proc n (From k)) → (f : Frame) × (frame_at s k ≡ some f)
    held-procedure-has-its-frame n = SafeUsed.held-procedure-has-its-frame words img are-bytes is-accepted choices s o at n

    pub outer-frame-exists : (k j : ℕ) (f : Frame) → frame_at s k ≡ some f → f.outer ≡ From j → (g : Frame) × (frame_at s j ≡ some g)
    outer-frame-exists = Demand3.outer-frame-exists words img are-bytes is-accepted choices s o at

    -- .. of one of the kinds 1 to 5, or unset: zero is the kind of nothing
    pub held-kind-is-not-zero : (v : Value) → HeldIn s v → OneTo 5 (kind_no v) ⊎ (v ≡ Unset)
    held-kind-is-not-zero = Zero.no-kind-is-zero words img are-bytes is-accepted choices s o at

    pub nothing-is-never-held : HeldIn s Nothing → ⊥
    nothing-is-never-held = Demand3.nothing-is-never-held words img are-bytes is-accepted choices s o at

  pub cell-is-held : (s : Store) (k : ℕ) (f : Frame) → frame_at s k ≡ some f → HeldIn s f.cell
  cell-is-held = Demand3.cell-is-held words img are-bytes is-accepted choices

  pub field-is-held : (s : Store) (o i : ℕ) (x : AnObject) (v : Value) → object_at s o ≡ some x → get_elem? x.values i ≡ some v → HeldIn s v
  field-is-held = Demand3.field-is-held words img are-bytes is-accepted choices

  -- zero is no tag either: no node of the script has it
  pub tag-is-not-zero : (n : ℕ) → n < nodes_of img → 1 ≤ (node_at img n).tag
  tag-is-not-zero = Zero.no-tag-is-zero words img are-bytes is-accepted

  module _ (s : Store) (t : Control) (at : At img choices s (some t)) where
    -- "From the step that enters an atomic block to the step that leaves it, only that block moves."
    pub only-the-entered-block-moves : (i n : ℕ) (ch : Chain) → AtomMoves (script_of img) t i n ch
        → (s₁ : Store) (o₁ : Option Control) → step (machine img) s t i ≡ goes_to s₁ o₁
        → Sealed (machine img) t i n ch s₁ o₁
    only-the-entered-block-moves = Demand3.only-the-entered-block-moves words img are-bytes is-accepted choices s t at

    -- .. and while an atom is entered, the movable commands are those inside the innermost one
    pub only-inside-an-entered-atom : atom_in t ≡ true → (x : Innermost t) × (movable t ≡ movable x.inner)
    only-inside-an-entered-atom = Demand3.only-inside-an-entered-atom words img are-bytes is-accepted choices s t at

  -- "So the run can stop only as done, as one of the eight faults, for the choices, or for room"
  pub demand-3-ends : (lent : List ℕ) → length lent ≡ words → (a : Answer) (after : List ℕ) → Runs img choices a lent after
      → (e : ℕ) (values : List ℕ) (n : ℕ) → Ends a e values n → EndNumbered (nodes_of img) e values
  demand-3-ends lent l a after runs e values n f =
      let g = ap answer_numbers (ap (λ (m : ℕ). answer_of m img choices) (sym l) ∙ sym runs.answer) ∙ f in
      let r = answer-ends words img choices is-accepted e values n g in
      subst₂ (EndNumbered (nodes_of img)) r.0 r.1 (Demand3.run-ends-as-said words img are-bytes is-accepted choices)

  -- "and for room exactly when a fitting choice is there and its step has no fault but needs an entry past a limit, or the script's
  -- start already does."
  pub demand-3-room : (lent : List ℕ) → length lent ≡ words → (a : Answer) (after : List ℕ) → Runs img choices a lent after
      → (k : ℕ) → ((n : ℕ) × Ends a 3 (k ∷ []) n) ↔ ForRoom (script_of img) bare (root_of img) choices k
  demand-3-room lent l a after runs k =
      let same = ap answer_numbers (runs.answer ∙ ap (λ (m : ℕ). answer_of m img choices) l) in (
        λ x. Demand3.room-only-when-needed words img are-bytes is-accepted choices k (answer-room words img choices is-accepted k x.0 (sym same ∙ x.1)),
        λ r. ((run_script img choices).steps, same ∙ room-answer words img choices is-accepted k (Demand3.room-when-needed words img are-bytes is-accepted choices k r)),
      )

-- what `ForRoom` asks of such a step is what the rule of room says
pub no-room-by-rule : (img : List ℕ) (s : Store) (t : Control) (i k : ℕ) → NoRoom (script_of img) s t i k ↔ Makes (script_of img) s t i (stops (Full k))
no-room-by-rule img s t i k = (
  λ x. (room-exactly (script_of img) s t i k).0 (room-if (script_of img) s t i k x),
  λ d. room-only (script_of img) s t i k ((room-exactly (script_of img) s t i k).1 d),
)
