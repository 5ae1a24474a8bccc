-- All that we promise of the run that takes turns fairly, sentence by sentence in the order of document 02, order 4. `Fairly` is the contract of `fair`, which has
-- no `requires`; what is promised of it holds of whatever satisfies it. `fair_run` and `picked` (specs/FairSaying) are the definitions' run and the choices
-- that it picks, into a list with room for so many. The proofs are elsewhere (the crate fair). Assumes nothing.
use Prim.Native.Nat.{ℕ, suc, ◌+◌, ◌<◌, ◌≤◌}
use mathlib.Core.Path.{◌≡◌, refl, sym, ap, subst, ◌∙◌}
use mathlib.Core.Bool.{true, false}
use mathlib.Core.Logic.{◌↔◌, ◌≢◌, ◌⊎◌, inl, inr}
use mathlib.Core.Option.{none, some, some-injective}
use mathlib.Core.List.{List, [], ◌∷◌, ◌++◌, map, append-nil}
use native.Mathlib.Omega.{arith}
use lib.ListN.{length, get_elem?, take, drop, replicate}
use lib.Seq.{take_at, drop_at}
use Rattle.rules.specs.declared.Answer.{Answer}
use Rattle.rules.specs.declared.Answer.TheVariants.{Ending}
use Rattle.rules.specs.declared.Chain.{Chain}
use Rattle.rules.specs.declared.End.{End}
use Rattle.rules.specs.declared.End.TheVariants.{Done, UsedUp, Stopped}
use Rattle.rules.specs.declared.Effect.{Effect}
use Rattle.rules.specs.declared.Next.TheVariants.{Enters}
use Rattle.rules.specs.declared.Stop.{Stop}
use Rattle.rules.specs.declared.Stop.TheVariants.{Faulted, Full, OutOfRange, NoRule}
use Rattle.rules.specs.State.{size, Store, empty}
use Rattle.rules.specs.Script.{script_of, root_of}
use Rattle.rules.specs.Refusals.{First}
use Rattle.rules.specs.Control.{Control, atom_in, Move, movable}
use Rattle.rules.specs.Step.{plan, does}
use Rattle.rules.specs.Run.{Ran, ran, machine, begins as begun, start, bare, run_script, answered, answer_of}
use Rattle.rules.specs.Numbers.{stop_no, end_no}
use Rattle.rules.proofs.ControlLaws.{opened-no-atom}
use Rattle.rules.proofs.Reasons.{refused-if}
use Rattle.words.specs.Layout.{layout}
use Rattle.words.specs.Lent.{words_after_run, words_after}
use Rattle.words.specs.Statements.{Runs}
use Rattle.safety.specs.Atoms.{InPlace}
use Rattle.fair.specs.FairRun.{width, Line, pick_of, picks_from, fair}
use Rattle.fair.specs.WholeTurns.{Turn, Turns, no-turn, Unended, Outlook, its-turn, unended, list_full, RunUnended}
use Rattle.fair.proofs.Leaves.{calm-moves}
use Rattle.fair.proofs.Lines.{Between, first-line}
use Rattle.fair.proofs.InTheQueue.{commands_of, at_first_lem, to-the-back}
use Rattle.fair.proofs.Moments.{in-range}
use Rattle.fair.proofs.Ending.{Counted, counted, picked-few, picks-too-large, fair-too-large, fair-in-range}
use Rattle.fair.proofs.Longer.{FairGoesOn, fair-goes-on}
use Rattle.fair.proofs.Picked.{picks-one, picks-full}
use Rattle.fair.proofs.Turning.{turn-calm}
use Rattle.fair.proofs.Waiting.{turn-begins, turns-picks}
use Rattle.fair.proofs.OneTurn.{then-zeros, atom-is-one-turn}
use Rattle.fair.proofs.Outlooks.{its-choice, unended-run, from-the-start, picked-before, runs-before}
use Rattle.fair.proofs.NoneStarves.{none-starves}
use Rattle.turnwords.specs.declared.Turned.{Turned}
use Rattle.turnwords.specs.FairContract.{picks_by, picks_of, Fairly}
use Rattle.turnwords.proofs.Determined.{fair-one, fair-met}
use Rattle.promises.specs.Saying.{Refuses, Accepts, StartFits, StartTooLarge}
use Rattle.promises.specs.FairSaying.{picked, fair_run, queue_of, commands_in, TurnBegins}
use Rattle.promises.proofs.Answers.{accepts-only, refused-answer}

-- ======== "Add a run that picks the choices."

-- for any bytes, any list and any workspace there is an answer, and just one, with every choice and every word
pub fair-answers : (img lent before : List ℕ) → (r : Turned) × (lent' : List ℕ) × (after : List ℕ) × Fairly img r lent lent' before after
fair-answers = fair-met

pub fair-decides : {img lent before : List ℕ} {r q : Turned} {l m w v : List ℕ}
    → Fairly img r lent l before w → Fairly img q lent m before v → (r ≡ q) × (l ≡ m) × (w ≡ v)
fair-decides = fair-one

module _ (img lent before : List ℕ) (r : Turned) (lent' after : List ℕ) (says : Fairly img r lent lent' before after) where
  -- a refused script gives the first reason and the place, and leaves the list and the workspace as they were
  pub fair-refuses : (k p : ℕ) → First [] (length before) img k p → Refuses r.answer k p × (r.picked ≡ 0) × (lent' ≡ lent) × (after ≡ before)
  unfolding picks_of picks_by words_after words_after_run
  fair-refuses k p f =
      let z = refused-if [] (length before) img k p f in (
        rw says.answer (refused-answer (length before) img (picks_of (length before) img (length lent)) k p z),
        says.picked ∙ rw z refl,
        says.picks ∙ rw z refl,
        says.words ∙ rw z refl,
      )

  -- of an accepted one the choices are the definitions', and the answer and the words are those of their fair run
  module _ (accepts : Accepts (length before) img) where
    are-picked : picks_of (length before) img (length lent) ≡ picked img (length lent)
    unfolding picks_of picks_by
    are-picked = rw (accepts-only (length before) img accepts) refl

    pub fair-picks : (r.picked ≡ length (picked img (length lent))) × (take r.picked lent' ≡ picked img (length lent))
    fair-picks =
        let e : r.picked ≡ length (picked img (length lent)) = says.picked ∙ ap length are-picked in (
          e,
          rw (says.picks, are-picked) (take_at (picked img (length lent)) (drop (length (picked img (length lent))) lent) r.picked (sym e)),
        )

    pub fair-answer : r.answer ≡ Ending (fair_run img (length lent)).end (fair_run img (length lent)).steps
    unfolding answer_of answered fair run_script
    fair-answer = says.answer ∙ rw (accepts-only (length before) img accepts, are-picked) refl

    pub fair-words : after ≡ layout (fair_run img (length lent)).store (fair_run img (length lent)).control ++ drop size before
    unfolding words_after words_after_run fair run_script
    fair-words = says.words ∙ rw (accepts-only (length before) img accepts, are-picked) refl

-- what is picked next, where the run goes on, is the position of a command that can move, and inside an atom that of the leftmost
pub next-can-move : (img : List ℕ) (n : ℕ) → (fair_run img n).end ≡ UsedUp → (t : Control) → (fair_run img n).control ≡ some t
    → (c : ℕ) × (c < length (movable t)) × (atom_in t ≡ true → c ≡ 0) × (picked img (n + 1) ≡ picked img n ++ (c ∷ []))
unfolding ran pick_of
next-can-move img n e t o = go (fair-goes-on (machine img) n bare (root_of img) e)
  where
    go : FairGoesOn (machine img) n bare (root_of img) → (c : ℕ) × (c < length (movable t)) × (atom_in t ≡ true → c ≡ 0) × (picked img (n + 1) ≡ picked img n ++ (c ∷ []))
    go g =
        let v : g.control ≡ t = sym (some-injective t g.control (sym o ∙ ap (λ (r : Ran Store). r.control) g.run_is)) in (
          pick_of (atom_in g.control) g.line,
          subst (λ (u : Control). pick_of (atom_in g.control) g.line < length (movable u)) v (in-range g.control g.line g.moment),
          λ a. rw (ap atom_in v ∙ a) refl,
          g.picks-on 1 ∙ ap (λ (z : List ℕ). picked img n ++ z) (picks-one (machine img) 0 g.store g.control g.line),
        )

-- ======== "Movable commands queue, at first left to right."

start-calm : (img : List ℕ) → atom_in (start img) ≡ false
unfolding begun
start-calm img = opened-no-atom ((machine img).cmd_at (root_of img)) bare.chain

-- the first turn begins at the start, with the movable commands as they stand
pub first-turn-begins : (img : List ℕ) → (l : Line) × TurnBegins img 0 empty (start img) l × (commands_in (start img) (queue_of l) ≡ map some (movable (start img)))
unfolding commands_of
first-turn-begins img =
    let x = first-line (start img) in
    let e = at_first_lem (start img) x.0 (start-calm img) x.1 in (
      x.0,
      record { first = x.0; is-first = x.1; choices = []; turns = no-turn },
      ap (λ (z : List Move). map (get_elem? z) (queue_of x.0)) (calm-moves (start img) (start-calm img)) ∙ e,
    )

-- as a turn begins, i whole turns after the start
module _ (img : List ℕ) (i : ℕ) (s : Store) (t : Control) (l : Line) (begins : TurnBegins img i s t l) where
  between : Between t l
  between = turn-begins (machine img) bare (root_of img) begins.first i begins.choices s t l begins.is-first begins.turns

  -- the choices of the turns before it are the first that are picked
  pub turns-are-picked : StartFits img → (n : ℕ) → picked img (length begins.choices + n) ≡ begins.choices ++ picks_from (machine img) n s (some t) (some l)
  turns-are-picked = picked-before (machine img) bare (root_of img) begins.first i begins.choices s t l begins.is-first begins.turns

  -- each movable command is in the queue, once, and nothing else is
  pub each-queues-once :
      ((c : ℕ) → c < length (movable t) → (j : ℕ) × (get_elem? (queue_of l) j ≡ some c))
      × ((j k c : ℕ) → get_elem? (queue_of l) j ≡ some c → get_elem? (queue_of l) k ≡ some c → j ≡ k)
      × ((j c : ℕ) → get_elem? (queue_of l) j ≡ some c → c < length (movable t))
  unfolding width
  each-queues-once =
      let e : l.count ≡ length (movable t) = between.counts ∙ ap length (sym (calm-moves t between.calm)) in (
        λ c h. between.fit.each c (omega arith),
        λ j k c x y. between.fit.once j k c x y,
        λ j c x. let h = between.fit.within j c x in omega arith,
      )

  -- ======== "The front one moves; what its step leaves movable goes to the back, left to right."

  module _ (s' : Store) (t' : Control) (l' : Line) (cs : List ℕ) (turn : Turn (machine img) s' t' l' cs s t l) where
    -- where the front stood others stand after the turn, or none, and all else as it stood; the queue has those that waited, in their order, and behind them the new ones
    pub goes-to-the-back : (ahead : List Move) × (front : Move) × (made : List Move) × (after : List Move)
        × (length ahead ≡ l.front)
        × (movable t ≡ ahead ++ (front ∷ after))
        × (movable t' ≡ ahead ++ (made ++ after))
        × (commands_in t' (queue_of l') ≡ commands_in t l.rest ++ map some made)
    unfolding commands_of
    goes-to-the-back =
        let x = to-the-back (machine img) s' t' l' cs s t l between turn in
        let a = calm-moves t between.calm in
        let b = calm-moves t' (turn-calm (machine img) s' t' turn.inner turn.store turn.control turn.on) in
        let y = x.0 in
        let c = ap (λ (z : List Move). map (get_elem? z) (queue_of l')) b in
        let d = ap (λ (z : List Move). map (get_elem? z) l.rest ++ map some y.made) (sym a) in
        (y.ahead, y.moved, y.made, y.after, y.begun.position, a ∙ y.was, b ∙ y.now, c ∙ x.1 ∙ d)

    -- ======== "Inside an entered atom the leftmost always moves, and the whole atom counts as one turn."

    -- a turn's choices are the front's position and then, up to the step that leaves the atom, nothing but 0
    pub front-then-leftmost : cs ≡ l.front ∷ replicate (length turn.inner) 0
    front-then-leftmost =
        turn.is ∙ ap (λ (z : List ℕ). l.front ∷ z) (then-zeros (machine img) s' t' turn.inner turn.store turn.control turn.on)

    -- where the front's step enters an atom, nothing stands in its place after the turn, as after a step of which nothing is left
    pub atom-is-a-turn : (e : Effect) (n : ℕ) (ch : Chain) → plan (machine img) s t l.front ≡ does e (Enters n ch)
        → InPlace (machine img).cmd_at t l.front none (some t')
    atom-is-a-turn e n ch enters = atom-is-one-turn (machine img) s' t' l' cs s t l n ch between (record { effect = e; plans = enters }) turn

  -- ======== "A command with k others ahead of it moves at turn k + 1 at the latest, unless an atom entered meanwhile never ends or the run stops."

  -- the whole list, with room for n more choices
  abbrev list : ℕ → List ℕ
  list n = picked img (length begins.choices + n)

  -- after k whole turns the next choice is its position: the same node, in the same chain
  abbrev MovesNext : ℕ → ℕ → ℕ → Type 0
  MovesNext k n c =
      (cs : List ℕ) × (later : List ℕ) × (s' : Store) × (t' : Control) × (l' : Line)
      × Turns (machine img) s' t' l' k cs s t l
      × (list n ≡ begins.choices ++ (cs ++ (l'.front ∷ later)))
      × (get_elem? (movable t') l'.front ≡ get_elem? (movable t) c)

  -- turn j + 1, before that, has no end, and so the run
  abbrev HasNoEnd : ℕ → ℕ → Type 0
  HasNoEnd k n =
      (j : ℕ) × (left : ℕ) × (cs : List ℕ) × (s' : Store) × (t' : Control) × (l' : Line)
      × Turns (machine img) s' t' l' j cs s t l
      × (j < k)
      × (length cs + left ≡ n)
      × Unended (machine img) l' left s' t'
      × RunUnended (fair_run img (length begins.choices + n))

  -- the list was full with k whole turns or fewer
  abbrev WasFull : ℕ → ℕ → Type 0
  WasFull k n =
      (j : ℕ) × (cs : List ℕ) × (s' : Store) × (t' : Control) × (l' : Line)
      × Turns (machine img) s' t' l' j cs s t l
      × (j ≤ k)
      × (length cs ≡ n)
      × (list n ≡ begins.choices ++ cs)

  pub moves-at-its-turn : StartFits img → (k n c : ℕ) → get_elem? (queue_of l) k ≡ some c → MovesNext k n c ⊎ (HasNoEnd k n ⊎ WasFull k n)
  moves-at-its-turn h k n c e = go (from-the-start (machine img) bare (root_of img) begins.first i begins.choices s t l begins.is-first begins.turns k n c e)
    where
      go : Outlook (machine img) c k n s t l → MovesNext k n c ⊎ (HasNoEnd k n ⊎ WasFull k n)
      go (its-turn {cs = cs} {s' = s'} {t' = t'} {l' = l'} turns room same) =
          let x = its-choice (machine img) k n cs s s' t t' l l' between turns room in
          inl (cs, x.0, s', t', l', turns, turns-are-picked h n ∙ ap (λ (z : List ℕ). begins.choices ++ z) x.1, same)
      go (unended {j = j} {left = left} {cs = cs} {s' = s'} {t' = t'} {l' = l'} turns before room rest) =
          let r = runs-before (machine img) bare (root_of img) begins.first i begins.choices s t l begins.is-first begins.turns h n in
          let u = unended-run (machine img) j left (0 + length begins.choices) cs s s' t t' l l' between turns rest in
          inr (inl (j, left, cs, s', t', l', turns, before, room, rest, rw (r, ← room) u))
      go (list_full {j = j} {cs = cs} {s' = s'} {t' = t'} {l' = l'} turns before full) =
          let z : n ≡ length cs + 0 = omega arith in
          let p : picks_from (machine img) n s (some t) (some l) ≡ cs = ap (λ (k : ℕ). picks_from (machine img) k s (some t) (some l)) z ∙ turns-picks (machine img) s' t' l' j cs s t l turns between 0 ∙ rw (picks-full (machine img) s' (some t') (some l')) (append-nil cs) in
          inr (inr (j, cs, s', t', l', turns, before, full, turns-are-picked h n ∙ ap (λ (z : List ℕ). begins.choices ++ z) p))

-- so no branch starves: in a run that goes on with every list and enters no atom, each command that can move after n steps is the one that moves, no later than at the step with the
-- number of those that can
pub no-branch-starves : (img : List ℕ)
    → ((n : ℕ) → ((fair_run img n).end ≡ UsedUp) × ((t : Control) → (fair_run img n).control ≡ some t → atom_in t ≡ false))
    → (n : ℕ) (t : Control) → (fair_run img n).control ≡ some t → (c : ℕ) → c < length (movable t)
    → (wait : ℕ) × (then : Control) × (choice : ℕ)
    × (wait < length (movable t))
    × ((fair_run img (n + wait)).control ≡ some then)
    × (picked img (n + suc wait) ≡ picked img (n + wait) ++ (choice ∷ []))
    × (get_elem? (movable then) choice ≡ get_elem? (movable t) c)
no-branch-starves img h n t e c o =
    let x = none-starves (machine img) bare (root_of img) (λ k. record { goes = (h k).0; calm = (h k).1 }) n t e c o in
    (x.wait, x.control, x.choice, x.soon, x.stands, x.picked, x.same)

-- ======== "The choices picked, with the one for a step that then stops the run, go to a lent list whose rest stays as it was; the base run on them ends the same."

module _ (img : List ℕ) (n : ℕ) where
  -- never more than the list has room for; by the end:
  pub never-more : length (picked img n) ≤ n
  never-more = picked-few (machine img) n bare (root_of img)

  module _ (h : StartFits img) where
    by_end : (e : End) → (fair_run img n).end ≡ e → Counted n e (fair_run img n).steps (length (picked img n))
    by_end e d = subst (λ (z : End). Counted n z (fair_run img n).steps (length (picked img n))) d (counted (machine img) n bare (root_of img) h)

    -- done: as many as steps
    pub done-picks : (fair_run img n).end ≡ Done → length (picked img n) ≡ (fair_run img n).steps
    done-picks = by_end Done

    -- 4: as many as steps, and as the list has room for
    pub full-picks : (fair_run img n).end ≡ UsedUp → (length (picked img n) ≡ (fair_run img n).steps) × ((fair_run img n).steps ≡ n)
    full-picks = by_end UsedUp

    -- a fault, or room at a step: one more than steps
    pub stopped-picks : (q : Stop) → (fair_run img n).end ≡ Stopped q → length (picked img n) ≡ suc (fair_run img n).steps
    stopped-picks q = by_end (Stopped q)

  -- a root that is too large as opened: room 3, no step, no choice
  pub too-large-picks : StartTooLarge img → ((fair_run img n).end ≡ Stopped (Full 3)) × ((fair_run img n).steps ≡ 0) × (picked img n ≡ [])
  unfolding ran
  too-large-picks h =
      let e = fair-too-large (machine img) n bare (root_of img) h in
      (rw e refl, rw e refl, picks-too-large (machine img) n bare (root_of img) h)

module _ (img lent before : List ℕ) (r : Turned) (lent' after : List ℕ) (says : Fairly img r lent lent' before after) where
  pub rest-stays : drop r.picked lent' ≡ drop r.picked lent
  rest-stays =
      let ps = picks_of (length before) img (length lent) in
      rw says.picks (drop_at ps (drop (length ps) lent) r.picked (sym says.picked) ∙ ap (λ (k : ℕ). drop k lent) (sym says.picked))

  -- the same answer, with its end and steps, and the same words, of whatever satisfies the contract of `run`
  pub base-run-ends-the-same : (a : Answer) (w : List ℕ) → Runs img (take r.picked lent') a before w → (a ≡ r.answer) × (w ≡ after)
  base-run-ends-the-same a w run =
      let ps = picks_of (length before) img (length lent) in
      let e : take r.picked lent' ≡ ps = ap (take r.picked) says.picks ∙ take_at ps (drop (length ps) lent) r.picked (sym says.picked) in (
        run.answer ∙ ap (answer_of (length before) img) e ∙ sym says.answer,
        run.words ∙ ap (λ (cs : List ℕ). words_after img cs before) e ∙ sym says.words,
      )

-- ======== "When the list is full and the run isn't done, the end is 4."

module _ (img : List ℕ) (n : ℕ) where
  -- and only then
  pub four-exactly : StartFits img → ((fair_run img n).end ≡ UsedUp) ↔ (((fair_run img n).steps ≡ n) × ((fair_run img n).end ≢ Done))
  four-exactly h = go (fair_run img n).end (counted (machine img) n bare (root_of img) h)
    where
      go : (e : End) → Counted n e (fair_run img n).steps (length (picked img n)) → (e ≡ UsedUp) ↔ (((fair_run img n).steps ≡ n) × (e ≢ Done))
      go Done c = (λ x. let z : ◌≡◌ {A = ℕ} 0 1 = cc in absurd (omega arith), λ x. absurd (x.1 refl))
      go UsedUp c = (λ x. (c.1, λ y. let z : ◌≡◌ {A = ℕ} 0 1 = cc in absurd (omega arith)), λ x. refl)
      go (Stopped q) c = (λ x. let z : ◌≡◌ {A = ℕ} 0 1 = cc in absurd (omega arith), λ x. absurd (let few = never-more img n in let e = x.0 in omega (arith, c)))

  -- end 5 never comes
  pub never-five : end_no (fair_run img n).end ≢ 5
  unfolding end_no stop_no
  never-five = go (fair_run img n).end (fair-in-range (script_of img) n bare (root_of img))
    where
      go : (e : End) → e ≢ Stopped OutOfRange → end_no e ≢ 5
      go Done h x = omega (arith, x)
      go UsedUp h x = omega (arith, x)
      go (Stopped (Faulted k q)) h x = omega (arith, x)
      go (Stopped (Full k)) h x = omega (arith, x)
      go (Stopped OutOfRange) h x = h refl
      go (Stopped NoRule) h x = omega (arith, x)
