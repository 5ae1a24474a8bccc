-- The customer's sentence, whole: document 02, order 4, "A command with k others ahead of it moves at turn k + 1 at the latest, unless an atom entered
-- meanwhile never ends or the run stops". Whatever room the list has, the command's turn comes, or one of the k turns before it has no end,
-- or the list was too short for them (`its-turn-comes`). Its choice is the next one in the list then (`its-choice`); a turn without an end is the run's
-- stop, or an atom still entered with the list full (`unended-run`). Said of the whole list and the whole run: `picked-before`, `runs-before`. Assumes nothing.
use Prim.Native.Nat.{ℕ, zero, suc, ◌+◌, ◌-◌, ◌<◌, ◌≤◌}
use mathlib.Core.Path.{◌≡◌, refl, sym, ap, subst, ◌∙◌}
use mathlib.Core.Bool.{Bool, true, false}
use mathlib.Core.Option.{none, some, some-injective}
use mathlib.Core.List.{List, [], ◌∷◌, ◌++◌}
use native.Mathlib.Omega.{arith}
use lib.ListN.{length, get_elem?, length-append}
use Rattle.rules.specs.Control.{Control, atom_in, movable, Outcome, goes_to, stops}
use Rattle.rules.specs.Step.{Machine, step}
use Rattle.rules.specs.Run.{Start, ran, run_from, begins}
use Rattle.rules.proofs.Runs.{run-used}
use Rattle.rules.proofs.ControlLaws.{opened-no-atom}
use Rattle.safety.specs.Reaches.{StartFits}
use Rattle.safety.proofs.Reaches.{run-reaches}
use Rattle.fair.specs.FairRun.{Line, first_line, pick_of, line_after, picks_on, picks_from, picks, fair}
use Rattle.fair.specs.WholeTurns.{TurnOn, turn-over, leftmost-moves, Turn, Turns, no-turn, turn, Unended, run-stops, still-inside, goes_further, Outlook, its-turn, unended, list_full, RunUnended, stopped, inside}
use Rattle.fair.proofs.Leaves.{calm-moves}
use Rattle.fair.proofs.Queues.{front-once}
use Rattle.fair.proofs.Lines.{Between, first-between, one_fewer}
use Rattle.fair.proofs.Turning.{turn-keeps}
use Rattle.fair.proofs.Moments.{Moment, between, next-moment, not_done}
use Rattle.fair.proofs.Picked.{picks-full, run_on, run-breaks}
use Rattle.fair.proofs.Ending.{picks_start, fair-start}
use Rattle.fair.proofs.Waiting.{between-after, between-turns, turn-begins, turns-picks, turns-reach}

module _ {S E : Type 0} (m : Machine S E) where
  -- ---- a turn comes to its end, or it doesn't

  -- from a moment of a turn, with room for n choices
  data Rest (l : Line) (n : ℕ) (s : S) (t : Control) : Type 0 where
    ends : {cs : List ℕ} {s' : S} {t' : Control} {l' : Line}
        → TurnOn m s' t' cs s t
        → line_after false l t' ≡ some l'
        → length cs ≤ n
        → Rest l n s t
    has-no-end : Unended m l n s t → Rest l n s t

  -- the turn is over, or its atom is entered and the line stays
  data After (t : Control) (l : Line) : Type 0 where
    is-over : {l' : Line} → atom_in t ≡ false → line_after false l t ≡ some l' → After t l
    goes_on : atom_in t ≡ true → Moment t l → After t l

  after : (s : S) (t : Control) (l : Line) (s₁ : S) (t₁ : Control)
      → Moment t l
      → step m s t (pick_of (atom_in t) l) ≡ goes_to s₁ (some t₁)
      → After t₁ l
  unfolding line_after
  after s t l s₁ t₁ h e =
      let x = next-moment m s t l s₁ t₁ h e in
      go (atom_in t₁) refl x.line x.is x.moment
    where
      go : (b : Bool) → atom_in t₁ ≡ b → (l₁ : Line) → line_after (atom_in t₁) l t₁ ≡ some l₁ → Moment t₁ l₁ → After t₁ l
      go true a l₁ d y =
          let f : some l ≡ some l₁ = rw a at d in
          goes_on a (subst (Moment t₁) (sym (some-injective l l₁ f)) y)
      go false a l₁ d y = is-over {l' = l₁} a (rw a at d)

  rest : (n : ℕ) (s : S) (t : Control) (l : Line) → atom_in t ≡ true → Moment t l → 1 < l.count → Rest l n s t
  unfolding pick_of
  rest zero s t l a h o = has-no-end (still-inside a)
  rest (suc n) s t l a h o = go (step m s t (pick_of (atom_in t) l)) refl (rest n)
    where
      go : (x : Outcome S) → step m s t (pick_of (atom_in t) l) ≡ x
          → ((s : S) (t : Control) (l : Line) → atom_in t ≡ true → Moment t l → 1 < l.count → Rest l n s t)
          → Rest l (suc n) s t
      go (goes_to s₁ none) e on = absurd (not_done m s t l s₁ h o e)
      go (stops r) e on = has-no-end (run-stops e)
      go (goes_to s₁ (some t₁)) e on = elim (after s t l s₁ t₁ h e) [
        | is-over b d ↦ ends (leftmost-moves a (rw a at e) (turn-over b)) d (omega arith)
        | goes_on b y ↦ elim (on s₁ t₁ l b y o) [
          | ends r d z ↦ ends (leftmost-moves a (rw a at e) r) d (omega arith)
          | has-no-end u ↦ has-no-end (goes_further e b u)
        ]
      ]

  data Came (n : ℕ) (s : S) (t : Control) (l : Line) : Type 0 where
    comes : {cs : List ℕ} {s' : S} {t' : Control} {l' : Line} → Turn m s' t' l' cs s t l → length cs ≤ n → Came n s t l
    comes-not : Unended m l n s t → Came n s t l

  came : (n : ℕ) (s : S) (t : Control) (l : Line) → Between t l → 1 < l.count → Came (suc n) s t l
  unfolding pick_of
  came n s t l b o = go (step m s t (pick_of (atom_in t) l)) refl
    where
      go : (x : Outcome S) → step m s t (pick_of (atom_in t) l) ≡ x → Came (suc n) s t l
      go (goes_to s₁ none) e = absurd (not_done m s t l s₁ (between b) o e)
      go (stops r) e = comes-not (run-stops e)
      go (goes_to s₁ (some t₁)) e =
          let d : step m s t l.front ≡ goes_to s₁ (some t₁) = rw b.calm at e in
          elim (after s t l s₁ t₁ (between b) e) [
            | is-over a f ↦ comes (record { inner = []; is = refl; store = s₁; control = t₁; moves = d; on = turn-over a; line = f }) (omega arith)
            | goes_on a y ↦ elim (rest n s₁ t₁ l a y o) [
              | ends r f z ↦ comes (record { inner = _; is = refl; store = s₁; control = t₁; moves = d; on = r; line = f }) (omega arith)
              | has-no-end u ↦ comes-not (goes_further e a u)
            ]
          ]

  -- ---- a command's turn comes, or not

  -- after one turn
  then : {c c' k n : ℕ} {cs : List ℕ} {s s₁ : S} {t t₁ : Control} {l l₁ : Line}
      → Turn m s₁ t₁ l₁ cs s t l
      → length cs ≤ n
      → get_elem? (movable t₁) c' ≡ get_elem? (movable t) c
      → Outlook m c' k (n - length cs) s₁ t₁ l₁
      → Outlook m c (suc k) n s t l
  then {cs = cs} x z e (its-turn {cs = ds} r h f) = its-turn (turn x r) (omega (arith, length-append cs ds)) (f ∙ e)
  then {cs = cs} x z e (unended {left = i} {cs = ds} r h g u) = unended {left = i} (turn x r) (omega arith) (omega (arith, length-append cs ds)) u
  then {cs = cs} x z e (list_full {cs = ds} r h g) = list_full (turn x r) (omega arith) (omega (arith, length-append cs ds))

  pub its-turn-comes : (k n c : ℕ) (s : S) (t : Control) (l : Line)
      → Between t l
      → get_elem? (l.front ∷ l.rest) k ≡ some c
      → Outlook m c k n s t l
  its-turn-comes zero zero c s t l b e = list_full no-turn (omega arith) refl
  its-turn-comes zero (suc n) c s t l b e = its-turn no-turn (omega arith) (ap (get_elem? (movable t)) (some-injective l.front c e))
  its-turn-comes (suc k) zero c s t l b e = list_full no-turn (omega arith) refl
  its-turn-comes (suc k) (suc n) c s t l b e = go (came n s t l b others) (its-turn-comes k)
    where
      -- so there are two at least
      others : 1 < l.count
      others =
          let d = front-once l.count l.front zero l.rest b.fit k c e in
          omega (arith, b.fit.within 0 l.front refl, b.fit.within (suc k) c e)

      go : Came (suc n) s t l
          → ((n c : ℕ) (s : S) (t : Control) (l : Line) → Between t l → get_elem? (l.front ∷ l.rest) k ≡ some c → Outlook m c k n s t l)
          → Outlook m c (suc k) (suc n) s t l
      go (comes-not u) on = unended {left = suc n} no-turn (omega arith) (omega arith) u
      go (comes {cs = cs} {s' = s₁} {t' = t₁} {l' = l₁} x z) on =
          let h = turn-keeps m s₁ t₁ l₁ cs s t l b x in
          let y = one_fewer l h.ahead h.after h.begun t₁ h.made h.now t h.moved h.was l₁ x.line k c e in
          let b₁ = between-after m s₁ t₁ l₁ cs s t l b x in
          then x z (rw (calm-moves t b.calm, calm-moves t₁ b₁.calm) y.2) (on (suc n - length cs) y.0 s₁ t₁ l₁ b₁ y.1)

  -- ---- its choice is the next one in the list

  pub its-choice : (k n : ℕ) (cs : List ℕ) (s s' : S) (t t' : Control) (l l' : Line)
      → Between t l
      → Turns m s' t' l' k cs s t l
      → length cs < n
      → (later : List ℕ) × (picks_from m n s (some t) (some l) ≡ cs ++ (l'.front ∷ later))
  unfolding picks_from pick_of
  its-choice k n cs s s' t t' l l' b r h =
      let i : ℕ = n - suc (length cs) in
      let e : n ≡ length cs + suc i = omega arith in
      let b' = between-turns m s' t' l' k cs s t l r b in
      let p = turns-picks m s' t' l' k cs s t l r b (suc i) in (
        picks_on (picks_from m i) l' (step m s' t' l'.front),
        ap (λ (j : ℕ). picks_from m j s (some t) (some l)) e ∙ p ∙ rw b'.calm,
      )

  -- ---- what a turn without an end means for the run

  unended-here : (l : Line) (n k : ℕ) (s : S) (t : Control)
      → Unended m l n s t
      → RunUnended (run_from m (picks_from m n s (some t) (some l)) k s (some t))
  unfolding ran line_after
  unended-here l _ k _ _ (run-stops {n = n} {s = s} {t = t} {r = r} e) = rw (run-breaks m n s t l k r e) (stopped refl)
  unended-here l _ k _ _ (still-inside {s = s} {t = t} a) = rw (picks-full m s (some t) (some l), run-used m k s t) (inside refl refl a)
  unended-here l _ k _ _ (goes_further {n = n} {s = s} {s₁ = s₁} {t = t} {t₁ = t₁} e a u) =
      rw (run_on m n s t l k s₁ t₁ e, a) (unended-here l n (suc k) s₁ t₁ u)

  pub unended-run : (j left k : ℕ) (cs : List ℕ) (s s' : S) (t t' : Control) (l l' : Line)
      → Between t l
      → Turns m s' t' l' j cs s t l
      → Unended m l' left s' t'
      → RunUnended (run_from m (picks_from m (length cs + left) s (some t) (some l)) k s (some t))
  unended-run j left k cs s s' t t' l l' b r u =
      rw (
        turns-picks m s' t' l' j cs s t l r b left,
        run-reaches m s' (some t') cs s (some t) (turns-reach m s' t' l' j cs s t l r) (picks_from m left s' (some t') (some l')) k,
      )
      (unended-here l' left (k + length cs) s' t' u)

  -- ---- the same as any turn of a fair run begins, i whole turns after its start

  module _ (st : Start S) (root : ℕ) (l₀ : Line) (i : ℕ) (ds : List ℕ) (s : S) (t : Control) (l : Line)
      (first : first_line (begins m st root) ≡ some l₀)
      (turns : Turns m s t l i ds st.store (begins m st root) l₀) where
    pub from-the-start : (k n c : ℕ) → get_elem? (l.front ∷ l.rest) k ≡ some c → Outlook m c k n s t l
    from-the-start k n c d = its-turn-comes k n c s t l (turn-begins m st root l₀ i ds s t l first turns) d

    begun : Between (begins m st root) l₀
    unfolding begins
    begun = first-between (begins m st root) l₀ (opened-no-atom (m.cmd_at root) st.chain) first

    -- the choices of the turns before it are the first that are picked
    pub picked-before : StartFits m st root → (n : ℕ) → picks m (length ds + n) st root ≡ ds ++ picks_from m n s (some t) (some l)
    picked-before h n = picks_start m (length ds + n) st root h ∙ rw first (turns-picks m s t l i ds st.store (begins m st root) l₀ turns begun n)

    -- and the run goes on from there
    pub runs-before : StartFits m st root → (n : ℕ)
        → fair m (length ds + n) st root ≡ run_from m (picks_from m n s (some t) (some l)) (0 + length ds) s (some t)
    runs-before h n =
        fair-start m (length ds + n) st root h
        ∙ rw (first, turns-picks m s t l i ds st.store (begins m st root) l₀ turns begun n)
        (run-reaches m s (some t) ds st.store (some (begins m st root)) (turns-reach m s t l i ds st.store (begins m st root) l₀ turns) (picks_from m n s (some t) (some l)) 0)
