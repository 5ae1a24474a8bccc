-- Moments of a run, for any machine: a run over more choices is the run from the moment that the first of them reach,
-- with the steps counted; moments that follow each other; the same choices reach the same moment. Assumes nothing.
use Prim.Native.Nat.{ℕ, suc, ◌+◌}
use mathlib.Core.Path.{◌≡◌, refl, sym, ◌∙◌}
use mathlib.Core.Option.{Option, none, some}
use mathlib.Core.List.{List, [], ◌∷◌, ◌++◌}
use native.Mathlib.Nat.{add-zero}
use native.Mathlib.Omega.{arith}
use lib.ListN.{length}
use Rattle.rules.specs.Control.{Control}
use Rattle.rules.specs.Step.{Machine}
use Rattle.rules.specs.Run.{ran, onward, run_from}
use Rattle.safety.specs.Reaches.{Reaches, stays, goes}

module _ {S E : Type 0} (m : Machine S E) where
  -- each shorter list of choices has its own state, and the count of steps goes on
  pub run-reaches : (s' : S) (o' : Option Control) (cs : List ℕ) (s : S) (o : Option Control)
      → Reaches m s' o' cs s o
      → (ds : List ℕ) (k : ℕ)
      → run_from m (cs ++ ds) k s o ≡ run_from m ds (k + length cs) s' o'
  unfolding run_from onward
  run-reaches s' o' _ _ _ stays ds k = rw (add-zero k)
  run-reaches s' o' _ _ _ (goes {i = i} {cs = cs} {s = s} {t = t} {s₁ = s₁} {o = o} e r) ds k =
      let z : k + suc (length cs) ≡ suc k + length cs = omega arith in
      rw (e, z) (run-reaches s' o' cs s₁ o r ds (suc k))

  -- one after the other
  pub reach-on : (s₂ : S) (o₂ : Option Control) (ds : List ℕ) (s₁ : S) (o₁ : Option Control)
      → (cs : List ℕ) (s : S) (o : Option Control)
      → Reaches m s₂ o₂ ds s₁ o₁
      → Reaches m s₁ o₁ cs s o
      → Reaches m s₂ o₂ (cs ++ ds) s o
  reach-on s₂ o₂ ds s₁ o₁ _ _ _ b stays = b
  reach-on s₂ o₂ ds s₁ o₁ _ _ _ b (goes {cs = cs} {s₁ = s} {o = o} e r) =
      goes e (reach-on s₂ o₂ ds s₁ o₁ cs s o b r)

  -- the moment between
  pub record Between (s₂ : S) (o₂ : Option Control) (ds cs : List ℕ) (s : S) (o : Option Control) : Type 0 where
    pub store : S
    pub control : Option Control
    pub first : Reaches m store control cs s o
    pub then : Reaches m s₂ o₂ ds store control

  pub reach_split : (cs ds : List ℕ) (s₂ : S) (o₂ : Option Control) (s : S) (o : Option Control)
      → Reaches m s₂ o₂ (cs ++ ds) s o
      → Between s₂ o₂ ds cs s o
  reach_split [] ds s₂ o₂ s o r = record { store = s; control = o; first = stays; then = r }
  reach_split (i ∷ cs) ds s₂ o₂ _ _ (goes {s₁ = s₁} {o = o} e r) =
      let x : Between s₂ o₂ ds cs s₁ o = reach_split cs ds s₂ o₂ s₁ o r in
      record { store = x.store; control = x.control; first = goes e x.first; then = x.then }

  -- the same choices reach the same moment
  pub reach-same : (cs : List ℕ) (s : S) (o : Option Control) (s₁ s₂ : S) (o₁ o₂ : Option Control)
      → Reaches m s₁ o₁ cs s o
      → Reaches m s₂ o₂ cs s o
      → (s₁ ≡ s₂) × (o₁ ≡ o₂)
  unfolding run_from ran
  reach-same cs s o s₁ s₂ o₁ o₂ a b =
      let q : run_from m [] (0 + length cs) s₁ o₁ ≡ run_from m [] (0 + length cs) s₂ o₂ =
      sym (run-reaches s₁ o₁ cs s o a [] 0) ∙ run-reaches s₂ o₂ cs s o b [] 0 in (
        sym (at s₁ o₁) ∙ rw q (at s₂ o₂),
        sym (of s₁ o₁) ∙ rw q (of s₂ o₂),
      )
    where
      at : (z : S) (p : Option Control) → (run_from m [] (0 + length cs) z p).store ≡ z
      at z none = refl
      at z (some t) = refl

      of : (z : S) (p : Option Control) → (run_from m [] (0 + length cs) z p).control ≡ p
      of z none = refl
      of z (some t) = refl
