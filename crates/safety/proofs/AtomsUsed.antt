-- What a sealed block gives, for any machine. While the block, run alone, hasn't ended, the whole is where it is, all
-- around as it was, and a command that isn't the block's own can't be picked (`block-open`, `block-stands`,
-- `no-other-moves`); so the commands that move are the block's own, one by one (`block-moves`). When it has ended, the run goes on from control with
-- nothing in its place (`block-left`). Nothing but `Sealed` is used. Assumes nothing.
use Prim.Native.Nat.{ℕ}
use mathlib.Core.Path.{◌≡◌, refl, sym, ap, subst, ◌∙◌}
use mathlib.Core.Option.{Option, none, some, none-ne-some, some-injective}
use mathlib.Core.List.{List, [], ◌∷◌, ◌++◌}
use lib.ListN.{get_elem?}
use Rattle.rules.specs.declared.Chain.{Chain}
use Rattle.rules.specs.Control.{Control, entered, opened, Move, movable, goes_to}
use Rattle.rules.specs.Step.{Machine, step}
use Rattle.safety.specs.Reaches.{Reaches, stays, goes}
use Rattle.safety.specs.Atoms.{InPlace, OnlyBlock, still-inside, was-left, Sealed}
use Rattle.safety.proofs.BecomingOnce.{becomes-once}
use Rattle.safety.proofs.Reaches.{Between, reach-on, reach_split, reach-same}

module _ {S E : Type 0} (m : Machine S E) where
  -- the commands that moved in a run, one for each choice
  unfoldable pub moved : {s' : S} {o' : Option Control} {cs : List ℕ} {s : S} {o : Option Control}
      → Reaches m s' o' cs s o
      → List (Option Move)
  moved stays = []
  moved (goes {i = i} {t = t} e r) = get_elem? (movable t) i ∷ moved r

  -- ---- a run that has ended

  -- where nothing is left in control, no choice is used
  pub ended-stays : (cs : List ℕ) (s s' : S) (o' : Option Control) → Reaches m s' o' cs s none → (cs ≡ []) × (s' ≡ s) × (o' ≡ none)
  ended-stays _ s _ _ stays = (refl, refl, refl)

  ended-moves : (cs : List ℕ) (s s₁ : S) (q p : Option Control)
      → (a : Reaches m s₁ p cs s q)
      → q ≡ none
      → (s₂ s' : S) (o₂ o' : Option Control) (r : Reaches m s' o' cs s₂ o₂)
      → moved r ≡ moved a
  unfolding moved
  ended-moves _ _ _ _ _ stays h _ _ _ _ stays = refl
  ended-moves _ _ _ _ _ (goes {t = t} e a) h _ _ _ _ r = absurd (none-ne-some t (sym h))

  -- with choices of which a first part is a run to the end, nothing else is left
  after-end : (cs ds : List ℕ) (s s₁ s₂ : S) (o : Option Control) (v : Control)
      → Reaches m s₁ none cs s o
      → Reaches m s₂ (some v) (cs ++ ds) s o
      → ⊥
  after-end cs ds s s₁ s₂ o v a b =
      let x : Between m s₂ (some v) ds cs s o = reach_split m cs ds s₂ (some v) s o b in
      let e : x.control ≡ none = (reach-same m cs s o x.store s₁ x.control none x.first a).1 in
      let r : Reaches m s₂ (some v) ds x.store none = rw e at x.then in
      none-ne-some v (sym (ended-stays ds x.store s₂ (some v) r).2)

  -- a run ends once
  ends-once : (s₁ : S) (cs ds xs ys : List ℕ) (s s₂ : S) (o : Option Control)
      → Reaches m s₁ none cs s o
      → Reaches m s₂ none ds s o
      → cs ++ xs ≡ ds ++ ys
      → (s₁ ≡ s₂) × (xs ≡ ys)
  ends-once _ _ ds xs ys s s₂ _ stays b e =
      let x : (ds ≡ []) × (s₂ ≡ s) × (none ≡ none) = ended-stays ds s s₂ none b in
      (sym x.1, rw x.0 at e)
  ends-once s₁ _ _ xs ys _ s₂ _ (goes {i = i} {cs = cs} {s = s} {t = t} {s₁ = s₃} {o = o} e a) (goes {i = j} {cs = ds} {s₁ = s₄} {o = p} f b) h =
      let k : i ≡ j = cc in
      let q : goes_to s₄ p ≡ goes_to s₃ o = sym f ∙ ap (step m s t) (sym k) ∙ e in
      let x : s₄ ≡ s₃ = cc in
      let y : p ≡ o = cc in
      ends-once s₁ cs ds xs ys s₃ s₂ o a (rw (x, y) at b) (cc)

  -- ---- the block, by its run alone

  -- the whole at a moment of the block's run: the same store; the block in its place; and nothing else can move
  pub record Open (t : Control) (i : ℕ) (v : Control) (s₁ s' : S) (o' : Option Control) : Type 0 where
    pub store : s' ≡ s₁
    pub control : Control
    pub is : o' ≡ some control
    pub stands : InPlace m.cmd_at t i (some (entered v)) (some control)
    pub others-wait : movable control ≡ movable v

  module _ (t : Control) (i n : ℕ) (ch : Chain) (s : S) (o : Option Control) (only : Sealed m t i n ch s o) where
    -- while the block, run alone, hasn't ended
    pub block-open : (cs : List ℕ) (s₁ : S) (v : Control)
        → Reaches m s₁ (some v) cs s (some (opened (m.cmd_at n) ch))
        → (s' : S) (o' : Option Control)
        → Reaches m s' o' cs s o
        → Open t i v s₁ s' o'
    block-open cs s₁ v a s' o' r = go (only cs s' o' r)
      where
        u : Control
        u = opened (m.cmd_at n) ch

        go : OnlyBlock m t i u cs s s' o' → Open t i v s₁ s' o'
        go (still-inside y) =
            let same : (s' ≡ s₁) × (some y.inner ≡ some v) =
            reach-same m cs s (some u) s' s₁ (some y.inner) (some v) y.alone a in
            let same-inner : y.inner ≡ v = some-injective y.inner v same.1 in
            record {
              store = same.0;
              control = y.control;
              is = y.is;
              stands = subst (λ w. InPlace m.cmd_at t i (some (entered w)) (some y.control)) same-inner y.stands;
              others-wait = rw same-inner at y.others-wait;
            }
        go (was-left y) =
            absurd
            (
            after-end y.first y.later s y.store s₁ (some u) v y.alone
            (rw y.is at a)
            )

    -- so the store is the block's own, and control what the rules for control make of the atom around what is left of it, in its
    -- place, and nothing else
    pub block-stands : (cs : List ℕ) (s₁ : S) (v : Control)
        → Reaches m s₁ (some v) cs s (some (opened (m.cmd_at n) ch))
        → (o₁ : Option Control)
        → InPlace m.cmd_at t i (some (entered v)) o₁
        → (s' : S) (o' : Option Control)
        → Reaches m s' o' cs s o
        → (s' ≡ s₁) × (o' ≡ o₁)
    block-stands cs s₁ v a o₁ placed s' o' r =
        let y = block-open cs s₁ v a s' o' r in
        (y.store, y.is ∙ becomes-once m.cmd_at t i (some (entered v)) y.stands placed)

    -- at once: the block's inside, opened, stands entered in place of the command that moved
    pub block-entered : (t' : Control) → o ≡ some t' → InPlace m.cmd_at t i (some (entered (opened (m.cmd_at n) ch))) (some t')
    block-entered t' e =
        let y = block-open [] s (opened (m.cmd_at n) ch) stays s o stays in
        subst (InPlace m.cmd_at t i (some (entered (opened (m.cmd_at n) ch)))) (sym y.is ∙ e) y.stands

    -- .. and only the block's own commands are movable
    open-moves : (cs : List ℕ) (s₁ : S) (v : Control)
        → Reaches m s₁ (some v) cs s (some (opened (m.cmd_at n) ch))
        → (s' : S) (t' : Control)
        → Reaches m s' (some t') cs s o
        → movable t' ≡ movable v
    open-moves cs s₁ v a s' t' r =
        let y = block-open cs s₁ v a s' (some t') r in
        ap movable (some-injective t' y.control y.is) ∙ y.others-wait

    -- a command that isn't the block's own isn't picked by any choice
    pub no-other-moves : (cs : List ℕ) (s₁ : S) (v : Control)
        → Reaches m s₁ (some v) cs s (some (opened (m.cmd_at n) ch))
        → (s' : S) (t' : Control)
        → Reaches m s' (some t') cs s o
        → (w : Move)
        → ((j : ℕ) → get_elem? (movable v) j ≡ some w → ⊥)
        → (k : ℕ)
        → get_elem? (movable t') k ≡ some w
        → ⊥
    no-other-moves cs s₁ v a s' t' r w f k e = f k (rw (open-moves cs s₁ v a s' t' r) at e)

    -- since the choices ds, with which the block alone hasn't ended
    moves-on : (s₁ : S) (p : Option Control) (cs : List ℕ) (s₀ : S) (q : Option Control)
        → (a : Reaches m s₁ p cs s₀ q)
        → (v : Control)
        → q ≡ some v
        → (ds : List ℕ)
        → Reaches m s₀ (some v) ds s (some (opened (m.cmd_at n) ch))
        → (s₂ : S) (o₂ : Option Control)
        → Reaches m s₂ o₂ ds s o
        → (s' : S) (o' : Option Control) (r : Reaches m s' o' cs s₂ o₂)
        → moved r ≡ moved a
    unfolding moved
    moves-on s₁ p _ _ _ stays v e ds b s₂ o₂ z _ _ stays = refl
    moves-on s₁ p _ _ _ (goes {i = j} {cs = cs} {s = s₀} {t = w} {s₁ = s₃} {o = q} f a) v e ds b _ _ z s' o' (goes {s = s₂} {t = t₂} {s₁ = s₄} {o = o₄} g r) =
        let k : w ≡ v = some-injective w v e in
        let first : movable t₂ ≡ movable w = open-moves ds s₀ v b s₂ t₂ z ∙ ap movable (sym k) in
        let rest : moved r ≡ moved a =
        go q refl k (λ v₂ h ds₂ b₂ z₂. moves-on s₁ p cs s₃ q a v₂ h ds₂ b₂ s₄ o₄ z₂ s' o' r) in
        rw (first, rest)
      where
        u : Control
        u = opened (m.cmd_at n) ch

        go : (h : Option Control)
            → q ≡ h
            → w ≡ v
            → ((v₂ : Control) → q ≡ some v₂ → (ds₂ : List ℕ) → Reaches m s₃ (some v₂) ds₂ s (some u) → Reaches m s₄ o₄ ds₂ s o → moved r ≡ moved a)
            → moved r ≡ moved a
        go none h k rec = ended-moves cs s₃ s₁ q p a h s₄ s' o₄ o' r
        go (some v₂) h k rec =
            let step₂ : step m s₀ v j ≡ goes_to s₃ (some v₂) = rw (k, h) at f in
            rec v₂ h (ds ++ (j ∷ []))
            (reach-on m s₃ (some v₂) (j ∷ []) s₀ (some v) ds s (some u) (goes step₂ stays) b)
            (reach-on m s₄ o₄ (j ∷ []) s₂ (some t₂) ds s o (goes g stays) z)

    -- up to the step that leaves the block, the commands that move are those that the block alone moves
    pub block-moves : (cs : List ℕ) (s₁ : S) (p : Option Control)
        → (a : Reaches m s₁ p cs s (some (opened (m.cmd_at n) ch)))
        → (s' : S) (o' : Option Control) (r : Reaches m s' o' cs s o)
        → moved r ≡ moved a
    block-moves cs s₁ p a s' o' r =
        moves-on s₁ p cs s (some (opened (m.cmd_at n) ch)) a (opened (m.cmd_at n) ch) refl [] stays s o stays s' o' r

    -- when it has ended, with the first of the choices: the others go on from control with nothing in its place
    pub block-left : (first later : List ℕ) (s₁ : S)
        → Reaches m s₁ none first s (some (opened (m.cmd_at n) ch))
        → (o₁ : Option Control)
        → InPlace m.cmd_at t i none o₁
        → (s' : S) (o' : Option Control)
        → Reaches m s' o' (first ++ later) s o
        → Reaches m s' o' later s₁ o₁
    block-left first later s₁ a o₁ nothing s' o' r = go (only (first ++ later) s' o' r)
      where
        u : Control
        u = opened (m.cmd_at n) ch

        go : OnlyBlock m t i u (first ++ later) s s' o' → Reaches m s' o' later s₁ o₁
        go (still-inside y) = absurd (after-end first later s s₁ s' (some u) y.inner a y.alone)
        go (was-left y) =
            let same : (y.store ≡ s₁) × (y.later ≡ later) =
            ends-once y.store y.first first y.later later s s₁ (some u) y.alone a (sym y.is) in
            rw (becomes-once m.cmd_at t i none y.closed nothing, same.0, same.1) at y.on
