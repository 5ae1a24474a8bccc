-- Whole turns of the fair run, in which order 4 counts how long a command waits: "A command with k others ahead of it moves at turn k + 1 at
-- the latest, unless an atom entered meanwhile never ends or the run stops". A turn whose atom hasn't been left, or in which the run
-- stops or is done, is no whole turn. Said for any machine. Assumes nothing.
use Rattle.std.specs.Prelude.{ℕ, zero, suc, ◌+◌, ◌<◌, ◌≤◌, ◌≡◌, true, false, List, [], ◌∷◌, ◌++◌, length}
use Rattle.std.proofs.Math.Option.{some}
use Rattle.std.proofs.Math.ListN.{get_elem?}
use Rattle.rules.specs.declared.Stop.{Stop}
use Rattle.rules.specs.declared.End.TheVariants.{UsedUp, Stopped}
use Rattle.rules.specs.Control.{Control, atom_in, movable, goes_to, stops}
use Rattle.rules.specs.Step.{Machine, step}
use Rattle.rules.specs.Run.{Ran}
use Rattle.fair.specs.FairRun.{Line, pick_of, line_after}

module _ {S E : Type 0} (m : Machine S E) where
  -- What is still to come of a turn, up to the store s' with the control t', by these choices: where no atom is entered, nothing; "inside
  -- an entered atom the leftmost always moves, and the whole atom counts as one turn".
  pub data TurnOn (s' : S) (t' : Control) : List ℕ → S → Control → Type 0 where
    turn-over : atom_in t' ≡ false → TurnOn s' t' [] s' t'
    leftmost-moves : {cs : List ℕ} {s s₁ : S} {t t₁ : Control}
        → atom_in t ≡ true
        → step m s t 0 ≡ goes_to s₁ (some t₁)
        → TurnOn s' t' cs s₁ t₁
        → TurnOn s' t' (0 ∷ cs) s t

  -- a whole turn: "the front one moves", and the turn goes on to its end
  pub record Turn (s' : S) (t' : Control) (l' : Line) (cs : List ℕ) (s : S) (t : Control) (l : Line) : Type 0 where
    pub inner : List ℕ
    pub is : cs ≡ l.front ∷ inner
    pub store : S
    pub control : Control
    pub moves : step m s t l.front ≡ goes_to store (some control)
    pub on : TurnOn s' t' inner store control
    pub line : line_after false l t' ≡ some l'  -- the queue as the next turn begins

  -- so many whole turns, one after the other, by these choices
  pub data Turns (s' : S) (t' : Control) (l' : Line) : ℕ → List ℕ → S → Control → Line → Type 0 where
    no-turn : Turns s' t' l' zero [] s' t' l'
    turn : {k : ℕ} {cs ds : List ℕ} {s s₁ : S} {t t₁ : Control} {l l₁ : Line}
        → Turn s₁ t₁ l₁ cs s t l
        → Turns s' t' l' k ds s₁ t₁ l₁
        → Turns s' t' l' (suc k) (cs ++ ds) s t l

  -- ---- and those that aren't whole

  -- What is still to come of a turn with this line, in a list with room for n more choices: the run stops in it; or the list is full, and the atom that
  -- it entered hasn't been left.
  pub data Unended (l : Line) : ℕ → S → Control → Type 0 where
    run-stops : {n : ℕ} {s : S} {t : Control} {r : Stop} → step m s t (pick_of (atom_in t) l) ≡ stops r → Unended l (suc n) s t
    still-inside : {s : S} {t : Control} → atom_in t ≡ true → Unended l zero s t
    goes_further : {n : ℕ} {s s₁ : S} {t t₁ : Control}
        → step m s t (pick_of (atom_in t) l) ≡ goes_to s₁ (some t₁)
        → atom_in t₁ ≡ true
        → Unended l n s₁ t₁
        → Unended l (suc n) s t

  -- What becomes of the command at position c, with k others ahead of it as a turn begins, in a list with room for n choices: it "moves at
  -- turn k + 1"; or one of the k turns before has no end; or the list was too short for them.
  pub data Outlook (c k n : ℕ) (s : S) (t : Control) (l : Line) : Type 0 where
    its-turn : {cs : List ℕ} {s' : S} {t' : Control} {l' : Line}
        → Turns s' t' l' k cs s t l
        → length cs < n
        → get_elem? (movable t') l'.front ≡ get_elem? (movable t) c  -- the same node, in the same chain
        → Outlook c k n s t l
    unended : {j left : ℕ} {cs : List ℕ} {s' : S} {t' : Control} {l' : Line}
        → Turns s' t' l' j cs s t l
        → j < k
        → length cs + left ≡ n
        → Unended l' left s' t'
        → Outlook c k n s t l
    list_full : {j : ℕ} {cs : List ℕ} {s' : S} {t' : Control} {l' : Line}
        → Turns s' t' l' j cs s t l
        → j ≤ k
        → length cs ≡ n
        → Outlook c k n s t l

-- ---- what a turn without an end means for the run

-- "unless an atom entered meanwhile never ends": the list is full, and it is entered still; "or the run stops"
pub data RunUnended {S : Type 0} (r : Ran S) : Type 0 where
  stopped : {x : Stop} → r.end ≡ Stopped x → RunUnended r
  inside : {t : Control} → r.end ≡ UsedUp → r.control ≡ some t → atom_in t ≡ true → RunUnended r
