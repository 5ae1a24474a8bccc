-- Without atoms a turn is a step: from a moment after which no atom is entered, a command with k others ahead of it moves at step k + 1, unless the
-- run stops before (`without-atoms`). It is what the outlook says there. Assumes nothing.
use Prim.Native.Nat.{ℕ, suc, ◌<◌}
use mathlib.Core.Path.{◌≡◌, refl, sym, ◌∙◌}
use mathlib.Core.Bool.{false, true≢false}
use mathlib.Core.Option.{some}
use mathlib.Core.List.{List, [], ◌∷◌}
use native.Mathlib.Omega.{arith}
use lib.ListN.{length, get_elem?}
use Rattle.rules.specs.declared.Stop.{Stop}
use Rattle.rules.specs.Control.{Control, atom_in, movable, stops}
use Rattle.rules.specs.Step.{Machine, step}
use Rattle.safety.specs.Reaches.{Reaches, stays, goes}
use Rattle.safety.proofs.Reaches.{reach-on}
use Rattle.fair.specs.FairRun.{Line, pick_of}
use Rattle.fair.specs.WholeTurns.{Turns, no-turn, turn, Unended, run-stops, still-inside, goes_further, Outlook, its-turn, unended, list_full}
use Rattle.fair.proofs.Lines.{Between}
use Rattle.fair.proofs.Waiting.{turn-reaches, turns-reach}
use Rattle.fair.proofs.OneTurn.{plain_turn}
use Rattle.fair.proofs.Outlooks.{its-turn-comes}

module _ {S E : Type 0} (m : Machine S E) where
  -- no atom is entered, from here on, whatever the choices
  abbrev pub NoAtoms : S → Control → Type 0
  NoAtoms s t = (cs : List ℕ) (s₁ : S) (t₁ : Control) → Reaches m s₁ (some t₁) cs s (some t) → atom_in t₁ ≡ false

  later : (s s₁ : S) (t t₁ : Control) (cs : List ℕ) → Reaches m s₁ (some t₁) cs s (some t) → NoAtoms s t → NoAtoms s₁ t₁
  later s s₁ t t₁ cs r h ds s₂ t₂ q = h _ s₂ t₂ (reach-on m s₂ (some t₂) ds s₁ (some t₁) cs s (some t) q r)

  -- as many choices as turns
  pub turns-are-steps : (s' : S) (t' : Control) (l' : Line) (k : ℕ) (cs : List ℕ) (s : S) (t : Control) (l : Line)
      → Turns m s' t' l' k cs s t l
      → NoAtoms s t
      → length cs ≡ k
  turns-are-steps s' t' l' _ _ _ _ _ no-turn h = refl
  turns-are-steps s' t' l' _ _ _ _ _ (turn {k = k} {cs = cs} {ds = ds} {s = s} {s₁ = s₁} {t = t} {t₁ = t₁} {l = l} {l₁ = l₁} x r) h =
      let e : cs ≡ l.front ∷ [] = plain_turn m s₁ t₁ l₁ cs s t l x (h _ x.store x.control (goes x.moves stays)) in
      let d = turns-are-steps s' t' l' k ds s₁ t₁ l₁ r (later s s₁ t t₁ cs (turn-reaches m s₁ t₁ l₁ cs s t l x) h) in
      rw e (omega (arith, d))

  -- what becomes of the command at position c, with k others ahead of it
  pub data Soon (c k : ℕ) (s : S) (t : Control) (l : Line) : Type 0 where
    moves : {cs : List ℕ} {s' : S} {t' : Control} {l' : Line}
        → Turns m s' t' l' k cs s t l
        → length cs ≡ k
        → get_elem? (movable t') l'.front ≡ get_elem? (movable t) c
        → Soon c k s t l
    stops-before : {j : ℕ} {cs : List ℕ} {s' : S} {t' : Control} {l' : Line} {r : Stop}
        → Turns m s' t' l' j cs s t l
        → length cs ≡ j
        → j < k
        → step m s' t' l'.front ≡ stops r
        → Soon c k s t l

  pub without-atoms : (k c : ℕ) (s : S) (t : Control) (l : Line)
      → Between t l
      → NoAtoms s t
      → get_elem? (l.front ∷ l.rest) k ≡ some c
      → Soon c k s t l
  unfolding pick_of
  without-atoms k c s t l b h e = go (its-turn-comes m k (suc k) c s t l b e)
    where
      -- a turn without an end, where no atom is entered: its first step stops
      stop : {j left : ℕ} {cs : List ℕ} {s' : S} {t' : Control} {l' : Line}
          → Turns m s' t' l' j cs s t l
          → length cs ≡ j
          → j < k
          → NoAtoms s' t'
          → Unended m l' left s' t'
          → Soon c k s t l
      stop {s' = s'} {t' = t'} q n i f (run-stops d) = stops-before q n i (rw (f [] s' t' stays) at d)
      stop {s' = s'} {t' = t'} q n i f (still-inside a) = absurd (true≢false (sym a ∙ f [] s' t' stays))
      stop q n i f (goes_further {s₁ = s₁} {t₁ = t₁} d a u) = absurd (true≢false (sym a ∙ f _ s₁ t₁ (goes d stays)))

      go : Outlook m c k (suc k) s t l → Soon c k s t l
      go (its-turn {cs = cs} {s' = s'} {t' = t'} {l' = l'} q i d) = moves q (turns-are-steps s' t' l' k cs s t l q h) d
      go (unended {j = j} {cs = cs} {s' = s'} {t' = t'} {l' = l'} q i d u) =
          stop q (turns-are-steps s' t' l' j cs s t l q h) i (later s s' t t' cs (turns-reach m s' t' l' j cs s t l q) h) u
      go (list_full {j = j} {cs = cs} {s' = s'} {t' = t'} {l' = l'} q i d) = let n = turns-are-steps s' t' l' j cs s t l q h in absurd (omega arith)
