-- How long a command waits: document 02, order 4, "A command with k others ahead of it moves at turn k + 1 at the latest, unless an atom
-- entered meanwhile never ends or the run stops". After k whole turns it is the front (`waits`), the same node with the same chain;
-- and the choices of whole turns are the choices picked (`turns-picks`), so that the next choice is its position. That the k turns
-- come, but for those two, is the module Outlooks. Assumes nothing.
use Prim.Native.Nat.{ℕ, ◌+◌}
use mathlib.Core.Path.{◌≡◌, ap, ◌∙◌}
use mathlib.Core.Bool.{false}
use mathlib.Core.Option.{some, some-injective}
use mathlib.Core.List.{List, ◌∷◌, ◌++◌, append_assoc}
use native.Mathlib.Omega.{arith}
use native.Mathlib.Nat.{suc-add, zero-add}
use lib.ListN.{length, get_elem?, length-append}
use Rattle.rules.specs.Control.{Control, atom_in}
use Rattle.rules.specs.Step.{Machine}
use Rattle.rules.specs.Run.{Start, begins}
use Rattle.rules.proofs.ControlLaws.{opened-no-atom}
use Rattle.safety.specs.Reaches.{Reaches, stays, goes}
use Rattle.safety.proofs.Reaches.{reach-on}
use Rattle.fair.specs.FairRun.{leaves, Line, first_line, pick_of, line_after, picks_from}
use Rattle.fair.specs.WholeTurns.{TurnOn, turn-over, leftmost-moves, Turn, Turns, no-turn, turn}
use Rattle.fair.proofs.Lines.{Between, first-between, next-between, one_fewer}
use Rattle.fair.proofs.Turning.{turn-keeps, turn-calm}
use Rattle.fair.proofs.Picked.{picks-moves}

module _ {S E : Type 0} (m : Machine S E) where
  pub between-after : (s' : S) (t' : Control) (l' : Line) (cs : List ℕ) (s : S) (t : Control) (l : Line)
      → Between t l
      → Turn m s' t' l' cs s t l
      → Between t' l'
  between-after s' t' l' cs s t l b x =
      let k = turn-keeps m s' t' l' cs s t l b x in
      next-between l k.ahead k.after k.begun t' k.made k.now l' (turn-calm m s' t' x.inner x.store x.control x.on) x.line

  pub between-turns : (s' : S) (t' : Control) (l' : Line) (k : ℕ) (cs : List ℕ) (s : S) (t : Control) (l : Line)
      → Turns m s' t' l' k cs s t l
      → Between t l
      → Between t' l'
  between-turns s' t' l' _ _ _ _ _ no-turn b = b
  between-turns s' t' l' _ _ _ _ _ (turn {k = k} {cs = cs} {ds = ds} {s = s} {s₁ = s₁} {t = t} {t₁ = t₁} {l = l} {l₁ = l₁} x r) b =
      between-turns s' t' l' k ds s₁ t₁ l₁ r (between-after s₁ t₁ l₁ cs s t l b x)

  -- as a turn of a fair run begins
  pub turn-begins : (st : Start S) (root : ℕ) (l₀ : Line) (i : ℕ) (cs : List ℕ) (s : S) (t : Control) (l : Line)
      → first_line (begins m st root) ≡ some l₀
      → Turns m s t l i cs st.store (begins m st root) l₀
      → Between t l
  unfolding begins
  turn-begins st root l₀ i cs s t l e r =
      between-turns s t l i cs st.store (begins m st root) l₀ r
      (first-between (begins m st root) l₀ (opened-no-atom (m.cmd_at root) st.chain) e)

  -- ---- the customer's sentence

  pub waits : (s' : S) (t' : Control) (l' : Line) (k : ℕ) (cs : List ℕ) (s : S) (t : Control) (l : Line)
      → Turns m s' t' l' k cs s t l
      → Between t l
      → (c : ℕ) → get_elem? (l.front ∷ l.rest) k ≡ some c
      → get_elem? (leaves t') l'.front ≡ get_elem? (leaves t) c
  waits s' t' l' _ _ _ _ _ no-turn b c e = ap (get_elem? (leaves t')) (some-injective l'.front c e)
  waits s' t' l' _ _ _ _ _ (turn {k = k} {cs = cs} {ds = ds} {s = s} {s₁ = s₁} {t = t} {t₁ = t₁} {l = l} {l₁ = l₁} x r) b c e =
      let h = turn-keeps m s₁ t₁ l₁ cs s t l b x in
      let y = one_fewer l h.ahead h.after h.begun t₁ h.made h.now t h.moved h.was l₁ x.line k c e in
      waits s' t' l' k ds s₁ t₁ l₁ r (between-after s₁ t₁ l₁ cs s t l b x) y.0 y.1 ∙ y.2

  -- ---- the choices of whole turns are those picked

  turn-on-picks : (s' : S) (t' : Control) (cs : List ℕ) (s : S) (t : Control)
      → TurnOn m s' t' cs s t
      → (n : ℕ) (l l' : Line) → line_after false l t' ≡ some l'
      → picks_from m (length cs + n) s (some t) (line_after (atom_in t) l t) ≡ cs ++ picks_from m n s' (some t') (some l')
  unfolding pick_of line_after
  turn-on-picks s' t' _ _ _ (turn-over a) n l l' e = rw (zero-add n, a, e)
  turn-on-picks s' t' _ _ _ (leftmost-moves {cs = cs} {s = s} {s₁ = s₁} {t = t} {t₁ = t₁} a d on) n l l' e =
      rw (suc-add (length cs) n, a)
      (picks-moves m (length cs + n) s t l s₁ t₁ (rw a d) ∙ rw a (ap (λ (z : List ℕ). 0 ∷ z) (turn-on-picks s' t' cs s₁ t₁ on n l l' e)))

  pub turn-picks : (s' : S) (t' : Control) (l' : Line) (cs : List ℕ) (s : S) (t : Control) (l : Line)
      → Turn m s' t' l' cs s t l
      → atom_in t ≡ false
      → (n : ℕ)
      → picks_from m (length cs + n) s (some t) (some l) ≡ cs ++ picks_from m n s' (some t') (some l')
  unfolding pick_of
  turn-picks s' t' l' cs s t l x h n =
      rw (x.is, suc-add (length x.inner) n)
      (picks-moves m (length x.inner + n) s t l x.store x.control (rw h x.moves)
      ∙ rw h (ap (λ (z : List ℕ). l.front ∷ z) (turn-on-picks s' t' x.inner x.store x.control x.on n l l' x.line)))

  pub turns-picks : (s' : S) (t' : Control) (l' : Line) (k : ℕ) (cs : List ℕ) (s : S) (t : Control) (l : Line)
      → Turns m s' t' l' k cs s t l
      → Between t l
      → (n : ℕ)
      → picks_from m (length cs + n) s (some t) (some l) ≡ cs ++ picks_from m n s' (some t') (some l')
  turns-picks s' t' l' _ _ _ _ _ no-turn b n = rw (zero-add n)
  turns-picks s' t' l' _ _ _ _ _ (turn {k = k} {cs = cs} {ds = ds} {s = s} {s₁ = s₁} {t = t} {t₁ = t₁} {l = l} {l₁ = l₁} x r) b n =
      let e : length (cs ++ ds) + n ≡ length cs + (length ds + n) = omega (arith, length-append cs ds) in
      rw (e, append_assoc cs ds (picks_from m n s' (some t') (some l')))
      (turn-picks s₁ t₁ l₁ cs s t l x b.calm (length ds + n)
      ∙ ap (λ (z : List ℕ). cs ++ z) (turns-picks s' t' l' k ds s₁ t₁ l₁ r (between-after s₁ t₁ l₁ cs s t l b x) n))

  -- ---- and lead to the next turn's state

  turn-on-reaches : (s' : S) (t' : Control) (cs : List ℕ) (s : S) (t : Control) → TurnOn m s' t' cs s t → Reaches m s' (some t') cs s (some t)
  turn-on-reaches s' t' _ _ _ (turn-over a) = stays
  turn-on-reaches s' t' _ _ _ (leftmost-moves {cs = cs} {s₁ = s₁} {t₁ = t₁} a d on) = goes d (turn-on-reaches s' t' cs s₁ t₁ on)

  pub turn-reaches : (s' : S) (t' : Control) (l' : Line) (cs : List ℕ) (s : S) (t : Control) (l : Line)
      → Turn m s' t' l' cs s t l
      → Reaches m s' (some t') cs s (some t)
  turn-reaches s' t' l' cs s t l x = rw x.is (goes x.moves (turn-on-reaches s' t' x.inner x.store x.control x.on))

  pub turns-reach : (s' : S) (t' : Control) (l' : Line) (k : ℕ) (cs : List ℕ) (s : S) (t : Control) (l : Line)
      → Turns m s' t' l' k cs s t l
      → Reaches m s' (some t') cs s (some t)
  turns-reach s' t' l' _ _ _ _ _ no-turn = stays
  turns-reach s' t' l' _ _ _ _ _ (turn {k = k} {cs = cs} {ds = ds} {s = s} {s₁ = s₁} {t = t} {t₁ = t₁} {l = l} {l₁ = l₁} x r) =
      reach-on m s' (some t') ds s₁ (some t₁) cs s (some t) (turns-reach s' t' l' k ds s₁ t₁ l₁ r) (turn-reaches s₁ t₁ l₁ cs s t l x)
