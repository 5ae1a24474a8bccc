-- No branch starves: in a fair run that never ends and in which no atom is entered, every command that stands in control moves, and no later than
-- at the step that has the number of commands in control (`none-starves`). It is the bound of Waiting, said without a queue. Assumes nothing.
use Prim.Native.Nat.{ℕ, zero, suc, ◌+◌, ◌<◌}
use mathlib.Core.Path.{◌≡◌, refl, sym, ap, subst, ◌∙◌}
use mathlib.Core.Bool.{false, true≢false}
use mathlib.Core.Option.{none, some, some-injective}
use mathlib.Core.List.{List, [], ◌∷◌, ◌++◌, append-nil, append_assoc}
use native.Mathlib.Omega.{arith}
use native.Mathlib.Nat.{add-zero}
use lib.ListN.{length, get_elem?}
use Rattle.laws.specs.Elems.{elem-lt}
use Rattle.rules.specs.declared.End.TheVariants.{Done, UsedUp, Stopped}
use Rattle.rules.specs.Control.{Control, atom_in, movable, Outcome, goes_to, stops}
use Rattle.rules.specs.Step.{Machine, step}
use Rattle.rules.specs.Run.{Start, Ran, ran, run_from}
use Rattle.rules.proofs.Runs.{run-used}
use Rattle.safety.proofs.Reaches.{run-reaches}
use Rattle.safety.proofs.AtomsInside.{atom-inside}
use Rattle.fair.specs.FairRun.{width, Line, pick_of, picks_from, picks, fair}
use Rattle.fair.specs.WholeTurns.{turn-over, Turn, Turns, no-turn, turn}
use Rattle.fair.proofs.Leaves.{calm-moves}
use Rattle.fair.proofs.Lines.{Between}
use Rattle.fair.proofs.Moments.{Moment, between, within, next-moment}
use Rattle.fair.proofs.Picked.{picks-full, picks-one, run_on, run_ends, run-breaks}
use Rattle.fair.proofs.Waiting.{between-after, between-turns, waits, turns-picks, turns-reach}
use Rattle.fair.proofs.Longer.{FairGoesOn, fair-goes-on}

-- a run that goes on, with no atom entered
pub record GoesCalm {S : Type 0} (r : Ran S) : Type 0 where
  pub goes : r.end ≡ UsedUp
  pub calm : (t : Control) → r.control ≡ some t → atom_in t ≡ false

module _ {S E : Type 0} (m : Machine S E) where
  -- whatever room the list has, from here on, k steps taken before
  abbrev Calmly : ℕ → S → Control → Line → Type 0
  Calmly k s t l = (n : ℕ) → GoesCalm (run_from m (picks_from m n s (some t) (some l)) k s (some t))

  -- a turn of one step
  record OneStep (k : ℕ) (s : S) (t : Control) (l : Line) : Type 0 where
    pub store : S
    pub control : Control
    pub line : Line
    pub turns : Turn m store control line (l.front ∷ []) s t l
    pub on : Calmly (suc k) store control line

  one-step : (k : ℕ) (s : S) (t : Control) (l : Line) → Between t l → Calmly k s t l → OneStep k s t l
  unfolding pick_of ran
  one-step k s t l b h = go (step m s t (pick_of (atom_in t) l)) refl
    where
      go : (x : Outcome S) → step m s t (pick_of (atom_in t) l) ≡ x → OneStep k s t l
      go (stops r) e =
          let z : Stopped r ≡ UsedUp = rw (run-breaks m 0 s t l k r e) at (h 1).goes in let y : ◌≡◌ {A = ℕ} 0 1 = cc in absurd (omega arith)
      go (goes_to s₁ none) e =
          let z : Done ≡ UsedUp = rw (run_ends m 0 s t l k s₁ e) at (h 1).goes in let y : ◌≡◌ {A = ℕ} 0 1 = cc in absurd (omega arith)
      go (goes_to s₁ (some t₁)) e =
          let x = next-moment m s t l s₁ t₁ (between b) e in
          let f : (n : ℕ) → run_from m (picks_from m (suc n) s (some t) (some l)) k s (some t) ≡ run_from m (picks_from m n s₁ (some t₁) (some x.line)) (suc k) s₁ (some t₁) =
          λ n. run_on m n s t l k s₁ t₁ e ∙ rw x.is in
          let g : Calmly (suc k) s₁ t₁ x.line = λ n. subst (λ (r : Ran S). GoesCalm r) (f n) (h (suc n)) in
          let a : atom_in t₁ ≡ false = (g zero).calm t₁ (rw (picks-full m s₁ (some t₁) (some x.line), run-used m (suc k) s₁ t₁)) in
          record {
            store = s₁;
            control = t₁;
            line = x.line;
            turns = record { inner = []; is = refl; store = s₁; control = t₁; moves = rw b.calm at e; on = turn-over a; line = rw a at x.is };
            on = g;
          }

  record ManySteps (j : ℕ) (s : S) (t : Control) (l : Line) : Type 0 where
    pub store : S
    pub control : Control
    pub line : Line
    pub choices : List ℕ
    pub many : length choices ≡ j
    pub turns : Turns m store control line j choices s t l

  many-steps : (j k : ℕ) (s : S) (t : Control) (l : Line) → Between t l → Calmly k s t l → ManySteps j s t l
  many-steps zero k s t l b h = record { store = s; control = t; line = l; choices = []; many = refl; turns = no-turn }
  many-steps (suc j) k s t l b h =
      let x = one-step k s t l b h in
      let y = many-steps j (suc k) x.store x.control x.line (between-after m x.store x.control x.line (l.front ∷ []) s t l b x.turns) x.on in
      record {
        store = y.store;
        control = y.control;
        line = y.line;
        choices = l.front ∷ y.choices;
        many = omega (arith, y.many);
        turns = turn x.turns y.turns;
      }

  -- ---- from the start

  module _ (st : Start S) (root : ℕ) where
    -- The command at position c of control t, which stands after n steps: so many steps later it is the one that moves.
    pub record MovesLater (n : ℕ) (t : Control) (c : ℕ) : Type 0 where
      pub wait : ℕ
      pub soon : wait < length (movable t)
      pub control : Control
      pub stands : (fair m (n + wait) st root).control ≡ some control
      pub choice : ℕ
      pub picked : picks m (n + suc wait) st root ≡ picks m (n + wait) st root ++ (choice ∷ [])
      pub same : get_elem? (movable control) choice ≡ get_elem? (movable t) c  -- the same node, in the same chain

    -- from a moment between turns, k steps counted, from which every longer list goes on, and with c in the queue behind j others
    module _ (n k : ℕ) (s : S) (t : Control) (l : Line) (b : Between t l)
        (picks-on : (j : ℕ) → picks m (n + j) st root ≡ picks m n st root ++ picks_from m j s (some t) (some l))
        (runs_on : (j : ℕ) → fair m (n + j) st root ≡ run_from m (picks_from m j s (some t) (some l)) k s (some t))
        (c j : ℕ) (queued : get_elem? (l.front ∷ l.rest) j ≡ some c) (y : ManySteps j s t l) where
      b' : Between y.control y.line
      b' = between-turns m y.store y.control y.line j y.choices s t l y.turns b

      at_turn : (i : ℕ) → picks_from m (j + i) s (some t) (some l) ≡ y.choices ++ picks_from m i y.store (some y.control) (some y.line)
      at_turn i =
          ap (λ (z : ℕ). picks_from m (z + i) s (some t) (some l)) (sym y.many)
          ∙ turns-picks m y.store y.control y.line j y.choices s t l y.turns b i

      whole : picks_from m j s (some t) (some l) ≡ y.choices
      whole =
          ap (λ (z : ℕ). picks_from m z s (some t) (some l)) (sym (add-zero j))
          ∙ at_turn 0
          ∙ rw (picks-full m y.store (some y.control) (some y.line)) (append-nil y.choices)

      further : picks_from m (suc j) s (some t) (some l) ≡ y.choices ++ (y.line.front ∷ [])
      unfolding pick_of
      further =
          ap (λ (z : ℕ). picks_from m z s (some t) (some l)) (let f : suc j ≡ j + 1 = omega arith in f)
          ∙ at_turn 1
          ∙ rw (picks-one m 0 y.store y.control y.line, b'.calm)

      reached : run_from m y.choices k s (some t) ≡ ran UsedUp (k + length y.choices) y.store (some y.control)
      reached =
          ap (λ (z : List ℕ). run_from m z k s (some t)) (sym (append-nil y.choices))
          ∙ run-reaches m y.store (some y.control) y.choices s (some t) (turns-reach m y.store y.control y.line j y.choices s t l y.turns) [] k
          ∙ run-used m (k + length y.choices) y.store y.control

      moves-later : MovesLater n t c
      unfolding width ran
      moves-later =
          let calm = calm-moves t b.calm in
          record {
            wait = j;
            soon = omega (arith, elem-lt (l.front ∷ l.rest) j queued, b.fit.long, b.counts, ap length calm);
            control = y.control;
            stands = rw (runs_on j, whole, reached);
            choice = y.line.front;
            picked =
                rw (picks-on (suc j), picks-on j, further, whole)
                (sym (append_assoc (picks m n st root) y.choices (y.line.front ∷ [])));
            same =
                rw (calm, calm-moves y.control b'.calm)
                (waits m y.store y.control y.line j y.choices s t l y.turns b c queued);
          }

    module _ (h : (n : ℕ) → GoesCalm (fair m n st root)) where
      from-moment : (n k : ℕ) (s : S) (t : Control) (l : Line)
          → Between t l
          → ((j : ℕ) → picks m (n + j) st root ≡ picks m n st root ++ picks_from m j s (some t) (some l))
          → ((j : ℕ) → fair m (n + j) st root ≡ run_from m (picks_from m j s (some t) (some l)) k s (some t))
          → (c : ℕ) → c < length (movable t)
          → MovesLater n t c
      unfolding width
      from-moment n k s t l b picks-on runs_on c o =
          let x = b.fit.each c (omega (arith, b.counts, ap length (calm-moves t b.calm))) in
          moves-later n k s t l b picks-on runs_on c x.0 x.1
          (many-steps x.0 k s t l b (λ i. subst (λ (r : Ran S). GoesCalm r) (runs_on i) (h (n + i))))

      -- each command that stands in control after n steps
      pub none-starves : (n : ℕ) (t : Control) → (fair m n st root).control ≡ some t → (c : ℕ) → c < length (movable t) → MovesLater n t c
      unfolding ran
      none-starves n t e c o = go (fair-goes-on m n st root (h n).goes)
        where
          is-between : (u : Control) (l : Line) → Moment u l → atom_in u ≡ false → Between u l
          is-between u l (between y) k = y
          is-between u l (within y) k = absurd (true≢false (sym (rw y.is (atom-inside y.around y.inner)) ∙ k))

          go : FairGoesOn m n st root → MovesLater n t c
          go g =
              let w : some t ≡ some g.control = sym e ∙ ap (λ (r : Ran S). r.control) g.run_is in
              let v : g.control ≡ t = sym (some-injective t g.control w) in
              let b = is-between g.control g.line g.moment (rw v ((h n).calm t e)) in
              subst (λ (u : Control). c < length (movable u) → MovesLater n u c) v
              (from-moment n n g.store g.control g.line b g.picks-on g.runs_on c)
              o
