-- An atom is one turn: document 02, order 4, "Inside an entered atom the leftmost always moves, and the whole atom counts as one turn". After the step that
-- enters an atom each choice of the turn is 0 (`then-zeros`), and the turn ends with the step that leaves it: nothing stands then in
-- place of the atom, and all around is as it was (`atom-is-one-turn`). Assumes nothing.
use Prim.Native.Nat.{ℕ}
use mathlib.Core.Path.{◌≡◌, refl, sym, ap, subst, ◌∙◌}
use mathlib.Core.Bool.{false, true≢false}
use mathlib.Core.Option.{Option, none, some, map, some-injective}
use mathlib.Core.List.{List, [], ◌∷◌}
use lib.ListN.{length, replicate}
use Rattle.rules.specs.declared.Chain.{Chain}
use Rattle.rules.specs.declared.Next.TheVariants.{Enters}
use Rattle.rules.specs.Control.{Control, entered, opened, atom_in, goes_to}
use Rattle.rules.specs.Step.{remains, put, Machine, does, follow, step}
use Rattle.rules.proofs.Around.{Around, plug, fill}
use Rattle.safety.specs.Atoms.{InPlace}
use Rattle.safety.proofs.Becoming.{put-becomes}
use Rattle.safety.proofs.AtomsInside.{atom-inside, fill-some}
use Rattle.safety.proofs.Atoms.{Inner, atom-step, EntersBlock, picks}
use Rattle.fair.specs.FairRun.{Line}
use Rattle.fair.specs.WholeTurns.{TurnOn, turn-over, leftmost-moves, Turn}
use Rattle.fair.proofs.Places.{Calm, CalmIn, calm-quiet, calm-fill}
use Rattle.fair.proofs.Lines.{Between}
use Rattle.fair.proofs.Turning.{front-moves}

module _ {S E : Type 0} (m : Machine S E) where
  pub then-zeros : (s' : S) (t' : Control) (cs : List ℕ) (s : S) (t : Control) → TurnOn m s' t' cs s t → cs ≡ replicate (length cs) 0
  then-zeros s' t' _ _ _ (turn-over a) = refl
  then-zeros s' t' _ _ _ (leftmost-moves {cs = cs} {s₁ = s₁} {t₁ = t₁} a d on) = ap (λ (z : List ℕ). 0 ∷ z) (then-zeros s' t' cs s₁ t₁ on)

  -- where no atom is entered the turn is over
  is-over : (s' : S) (t' : Control) (cs : List ℕ) (s : S) (t : Control) (o : Option Control) → TurnOn m s' t' cs s t → o ≡ some t → CalmIn o → o ≡ some t'
  is-over s' t' _ _ _ o (turn-over a) e h = e
  is-over s' t' _ _ _ o (leftmost-moves a d on) e h = absurd (true≢false (sym a ∙ subst CalmIn e h))

  -- and has had one choice
  pub plain_turn : (s' : S) (t' : Control) (l' : Line) (cs : List ℕ) (s : S) (t : Control) (l : Line)
      → (r : Turn m s' t' l' cs s t l)
      → atom_in r.control ≡ false
      → cs ≡ l.front ∷ []
  plain_turn s' t' l' cs s t l r h = r.is ∙ ap (λ (z : List ℕ). l.front ∷ z) (go r.inner r.store r.control r.on h)
    where
      go : (ds : List ℕ) (s₁ : S) (t₁ : Control) → TurnOn m s' t' ds s₁ t₁ → atom_in t₁ ≡ false → ds ≡ []
      go _ _ _ (turn-over a) k = refl
      go _ _ _ (leftmost-moves a d on) k = absurd (true≢false (sym a ∙ k))

  -- an atom entered at a place is left by the turn's last step
  pub atom-left : (C : Around) → Calm C
      → (s' : S) (t' : Control) (cs : List ℕ) (s : S) (t : Control)
      → TurnOn m s' t' cs s t
      → (u : Control) → t ≡ plug C (entered u)
      → fill m.cmd_at C none ≡ some t'
  atom-left C h s' t' _ _ _ (turn-over a) u w = absurd (true≢false (sym (atom-inside C u) ∙ ap atom_in (sym w) ∙ a))
  atom-left C h s' t' _ _ _ (leftmost-moves {cs = cs} {s = s} {s₁ = s₁} {t = t} {t₁ = t₁} a d on) u w =
      let x : Inner m C u s 0 s₁ (some t₁) = atom-step m C u s 0 s₁ (some t₁) (calm-quiet C h) (rw w at d) in
      go x.rest x.whole (λ v. atom-left C h s' t' cs s₁ t₁ on v)
    where
      go : (p : Option Control)
          → some t₁ ≡ fill m.cmd_at C (map entered p)
          → ((v : Control) → t₁ ≡ plug C (entered v) → fill m.cmd_at C none ≡ some t')
          → fill m.cmd_at C none ≡ some t'
      go none e f = is-over s' t' cs s₁ t₁ (fill m.cmd_at C none) on (sym e) (calm-fill m.cmd_at C none h tt)
      go (some v) e f = f v (some-injective t₁ (plug C (entered v)) (e ∙ fill-some m.cmd_at C (entered v)))

  pub atom-is-one-turn : (s' : S) (t' : Control) (l' : Line) (cs : List ℕ) (s : S) (t : Control) (l : Line) (n : ℕ) (ch : Chain)
      → Between t l
      → EntersBlock m s t l.front n ch
      → Turn m s' t' l' cs s t l
      → InPlace m.cmd_at t l.front none (some t')
  unfolding step follow remains
  atom-is-one-turn s' t' l' cs s t l n ch b x r =
      let f = front-moves m s t l r.store (some r.control) b r.moves in
      let C = f.spot.around in
      let u : Control = opened (m.cmd_at n) ch in
      let g : follow m s t l.front (does x.effect (Enters n ch)) ≡ goes_to r.store (some r.control) = rw x.plans at r.moves in
      let k : put m.cmd_at t l.front (some (entered u)) ≡ some r.control = cc in
      let w : some r.control ≡ some (plug C (entered u)) = sym k ∙ f.spot.filled (some (entered u)) ∙ fill-some m.cmd_at C (entered u) in
      let p = picks m s t l.front x.effect (Enters n ch) x.plans in
      let e = atom-left C f.spot.calm s' t' r.inner r.store r.control r.on u (some-injective r.control (plug C (entered u)) w) in
      subst (InPlace m.cmd_at t l.front none) (f.spot.filled none ∙ e) (put-becomes m.cmd_at t l.front none p.node p.chain p.is)
