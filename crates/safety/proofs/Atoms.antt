-- The atom sentence of demand 3 on runs, for any machine: `only-that-block-moves`. A step of control with an entered
-- atom at a quiet place is the very step that the inside alone would make, and all around stays (`atom-step`); a run is
-- so many of them (`atom-run`); and a step that enters a block puts it at such a place. Nested blocks are included:
-- the surroundings may be inside other atoms. Assumes nothing.
use Prim.Native.Nat.{ℕ}
use mathlib.Core.Path.{◌≡◌, refl, sym, ap, subst, ◌∙◌}
use mathlib.Core.Bool.{Bool, true, false, cond}
use mathlib.Core.Option.{Option, none, some, map, some-injective}
use mathlib.Core.List.{List, [], ◌∷◌}
use native.Mathlib.Omega.{arith}
use lib.ListN.{get_elem?}
use Rattle.rules.specs.declared.Chain.{Chain}
use Rattle.rules.specs.declared.Next.{Next}
use Rattle.rules.specs.declared.Next.TheVariants.{Enters}
use Rattle.rules.specs.declared.Stop.{Stop}
use Rattle.rules.specs.declared.Stop.TheVariants.{Full, OutOfRange}
use Rattle.rules.specs.Control.{Control, fits, entered, opened, Move, move, movable, Outcome, goes_to, stops}
use Rattle.rules.specs.Step.{remains, put, Machine, Plan, does, refuses, judged, chosen, plan, follow, step}
use Rattle.safety.specs.Safe.{Nested}
use Rattle.rules.proofs.Around.{Around, plug, fill, Quiet}
use Rattle.safety.specs.Reaches.{Reaches, stays, goes}
use Rattle.safety.specs.Atoms.{InPlace, OnlyBlock, still-inside, was-left, Sealed}
use Rattle.safety.proofs.Becoming.{put-becomes}
use Rattle.safety.proofs.Focus.{Focus, focus}
use Rattle.safety.proofs.AtomsInside.{moves-inside, puts-inside, fill-some, fits-inside}

pub stops-not-goes : {S : Type 0} (r : Stop) (s : S) (o : Option Control) → ◌≡◌ {A = Outcome S} (stops r) (goes_to s o) → ⊥
stops-not-goes r s o e = let z : ◌≡◌ {A = ℕ} 0 1 = cc in omega arith

module _ {S E : Type 0} (m : Machine S E) where
  -- A step of the whole is a step of the inside alone, and all around stays as it is.
  pub record Inner (C : Around) (u : Control) (s : S) (i : ℕ) (s' : S) (o : Option Control) : Type 0 where
    pub rest : Option Control
    pub alone : step m s u i ≡ goes_to s' rest
    pub whole : o ≡ fill m.cmd_at C (map entered rest)

  pub atom-step : (C : Around) (u : Control) (s : S) (i : ℕ) (s' : S) (o : Option Control)
      → Quiet C
      → step m s (plug C (entered u)) i ≡ goes_to s' o
      → Inner C u s i s' o
  unfolding step plan follow judged chosen
  atom-step C u s i s' o q e =
      picked
      (get_elem? (movable u) i)
      refl
      (rw (moves-inside C u q) at e)
    where
      t : Control
      t = plug C (entered u)

      -- what stands after the step of the inside alone, and of the whole
      inner : Next → Option Control
      inner y = put m.cmd_at u i (remains m.cmd_at y)

      outer : Next → Option Control
      outer y = put m.cmd_at t i (remains m.cmd_at y)

      fitted : (n : ℕ) (ch : Chain) (x : E) (y : Next) (b : Bool)
          → get_elem? (movable u) i ≡ some (move n ch)
          → m.act s n ch ≡ does x y
          → fits (outer y) ≡ b
          → follow m s t i (cond b (does x y) (refuses (Full 3))) ≡ goes_to s' o
          → Inner C u s i s' o
      fitted n ch x y true p a f h =
          let w : outer y ≡ fill m.cmd_at C (map entered (inner y)) =
          puts-inside m.cmd_at C u i (remains m.cmd_at y) q in
          let k : fits (inner y) ≡ true = fits-inside m.cmd_at C (inner y) (sym (ap fits w) ∙ f) in
          let z : m.apply x s ≡ s' = cc in
          let v : outer y ≡ o = cc in
          record {
            rest = inner y;
            alone = rw (p, chosen, a, judged, k, z);
            whole = sym v ∙ w;
          }
      fitted n ch x y false p a f h = absurd (stops-not-goes (Full 3) s' o h)

      acted : (n : ℕ) (ch : Chain) (a : Plan E)
          → get_elem? (movable u) i ≡ some (move n ch)
          → m.act s n ch ≡ a
          → follow m s t i (judged m t i a) ≡ goes_to s' o
          → Inner C u s i s' o
      acted n ch (does x y) p a h = fitted n ch x y (fits (outer y)) p a refl h
      acted n ch (refuses r) p a h = absurd (stops-not-goes r s' o h)

      picked : (x : Option Move)
          → get_elem? (movable u) i ≡ x
          → follow m s t i (chosen m s t i x) ≡ goes_to s' o
          → Inner C u s i s' o
      picked none p h = absurd (stops-not-goes OutOfRange s' o h)
      picked (some (move n ch)) p h = acted n ch (m.act s n ch) p refl h

  -- ---- a run since the block was entered

  module _ (t₀ : Control) (i₀ : ℕ) where
    -- what is known of the choices after a step of the inside, with that step
    on-after : (u v : Control) (i : ℕ) (cs : List ℕ)
        → (s s₁ s' : S) (o' : Option Control)
        → step m s u i ≡ goes_to s₁ (some v)
        → OnlyBlock m t₀ i₀ v cs s₁ s' o'
        → OnlyBlock m t₀ i₀ u (i ∷ cs) s s' o'
    on-after u v i cs s s₁ s' o' e (still-inside x) =
        still-inside (record { inner = x.inner; alone = goes e x.alone; control = x.control; is = x.is; stands = x.stands; others-wait = x.others-wait })
    on-after u v i cs s s₁ s' o' e (was-left x) =
        was-left
        (
        record {
          first = i ∷ x.first;
          later = x.later;
          is = rw x.is;
          store = x.store;
          alone = goes e x.alone;
          control = x.control;
          closed = x.closed;
          on = x.on;
        }
        )

    -- C is what stands around the place of the command that entered
    module _ (C : Around) (q : Quiet C) (place : (p : Option Control) → InPlace m.cmd_at t₀ i₀ p (fill m.cmd_at C p)) where
      pub atom-run : (s' : S) (o' : Option Control) (cs : List ℕ) (s : S) (o : Option Control)
          → Reaches m s' o' cs s o
          → (u : Control)
          → o ≡ some (plug C (entered u))
          → OnlyBlock m t₀ i₀ u cs s s' o'
      atom-run s' o' _ _ _ stays u e =
          still-inside
          (
          record {
            inner = u;
            alone = stays;
            control = plug C (entered u);
            is = e;
            stands = subst (InPlace m.cmd_at t₀ i₀ (some (entered u))) (fill-some m.cmd_at C (entered u)) (place (some (entered u)));
            others-wait = moves-inside C u q;
          }
          )
      atom-run s' o' _ _ _ (goes {i = i} {cs = cs} {s = s} {t = t} {s₁ = s₁} {o = o} e r) u x =
          let w : t ≡ plug C (entered u) = some-injective t (plug C (entered u)) x in
          let y : Inner C u s i s₁ o = atom-step C u s i s₁ o q (rw w at e) in
          go y.rest y.alone y.whole (λ v. atom-run s' o' cs s₁ o r v)
        where
          go : (p : Option Control)
              → step m s u i ≡ goes_to s₁ p
              → o ≡ fill m.cmd_at C (map entered p)
              → ((v : Control) → o ≡ some (plug C (entered v)) → OnlyBlock m t₀ i₀ v cs s₁ s' o')
              → OnlyBlock m t₀ i₀ u (i ∷ cs) s s' o'
          go none a c f =
              was-left
              (
              record {
                first = i ∷ [];
                later = cs;
                is = refl;
                store = s₁;
                alone = goes a stays;
                control = o;
                closed = subst (InPlace m.cmd_at t₀ i₀ none) (sym c) (place none);
                on = r;
              }
              )
          go (some v) a c f = on-after u v i cs s s₁ s' o' a (f v (c ∙ fill-some m.cmd_at C (entered v)))

  -- ---- the step that enters a block

  -- with choice i, control t enters the block whose inside is the command at node n, in the chain ch
  pub record EntersBlock (s : S) (t : Control) (i n : ℕ) (ch : Chain) : Type 0 where
    pub effect : E
    pub plans : plan m s t i ≡ does effect (Enters n ch)

  -- a plan is of a movable command
  pub record Picks (t : Control) (i : ℕ) : Type 0 where
    pub node : ℕ
    pub chain : Chain
    pub is : get_elem? (movable t) i ≡ some (move node chain)

  pub picks : (s : S) (t : Control) (i : ℕ) (e : E) (x : Next) → plan m s t i ≡ does e x → Picks t i
  unfolding plan chosen
  picks s t i e x h = go (get_elem? (movable t) i) refl h
    where
      go : (p : Option Move) → get_elem? (movable t) i ≡ p → chosen m s t i p ≡ does e x → Picks t i
      go none q k = let z : ◌≡◌ {A = ℕ} 0 1 = cc in absurd (omega arith)
      go (some (move n ch)) q k = record { node = n; chain = ch; is = q }

  -- From the step that enters a block to the step that leaves it, only that block moves.
  pub only-that-block-moves : (s : S) (t : Control) (i n : ℕ) (ch : Chain)
      → Nested t
      → EntersBlock s t i n ch
      → (s₁ : S) (o₁ : Option Control)
      → step m s t i ≡ goes_to s₁ o₁
      → Sealed m t i n ch s₁ o₁
  unfolding step follow remains
  only-that-block-moves s t i n ch h x s₁ o₁ e =
      let p : Picks t i = picks s t i x.effect (Enters n ch) x.plans in
      let f : Focus m.cmd_at t p.node p.chain (put m.cmd_at t i) =
      focus m.cmd_at t i p.node p.chain h p.is in
      let u : Control = opened (m.cmd_at n) ch in
      let g : follow m s t i (does x.effect (Enters n ch)) ≡ goes_to s₁ o₁ = rw x.plans at e in
      let k : put m.cmd_at t i (some (entered u)) ≡ o₁ = cc in
      let w : o₁ ≡ some (plug f.around (entered u)) =
      sym k ∙ f.filled (some (entered u)) ∙ fill-some m.cmd_at f.around (entered u) in
      let place : (a : Option Control) → InPlace m.cmd_at t i a (fill m.cmd_at f.around a) =
      λ a. subst (InPlace m.cmd_at t i a) (f.filled a) (put-becomes m.cmd_at t i a p.node p.chain p.is) in
      λ cs s' o' r. atom-run t i f.around f.quiet place s' o' cs s₁ o₁ r u w
