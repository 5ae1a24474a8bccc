-- Unset over a run (order 5): at every moment the unset cells are those of the variables that a step declared and that no step since
-- has stored to (that these are unset: UnsetIf), and no others. So no step stores unset, copies it or makes it otherwise. Assumes nothing.
use Prim.Native.Nat.{ℕ}
use mathlib.Core.Path.{refl, ap, subst, sym}
use mathlib.Core.Logic.{◌⊎◌, inl, inr}
use mathlib.Core.Option.{Option, some, none-ne-some}
use mathlib.Core.List.{List, [], ◌∷◌}
use Rattle.rules.specs.State.{Store, empty}
use Rattle.rules.specs.Script.{Script}
use Rattle.rules.specs.Control.{Control}
use Rattle.rules.specs.Step.{mini_oo}
use Rattle.safety.specs.Reaches as R
use Rattle.safety.specs.Reaches.{Reaches}
use Rattle.safety.specs.Unset.{UnsetAt, StoresTo, NotStored, stays, goes, Declares, DeclaredOnly}
use Rattle.safety.proofs.Reaches.{reach-on}
use Rattle.safety.proofs.UnsetSteps.{unset-before, unset-after}

module _ (sc : Script) (k : ℕ) (s' : Store) (o' : Option Control) where
  -- it was unset at the beginning and isn't stored to, or it was declared on the way
  abbrev Since : List ℕ → Store → Option Control → Type 0
  Since cs s o = (UnsetAt s k × NotStored sc k s' o' cs s o) ⊎ DeclaredOnly sc k s' o' cs s o

  pub unset-only : (cs : List ℕ) (s : Store) (o : Option Control) → Reaches (mini_oo sc) s' o' cs s o → UnsetAt s' k → Since cs s o
  unset-only _ _ _ R.stays u = inl (u, stays)
  unset-only _ _ _ (R.goes {i = i} {cs = cs} {s = s} {t = t} {s₁ = s₁} {o = o} e r) u = go (unset-only cs s₁ o r u)
    where
      first : (UnsetAt s k × (StoresTo sc s t i k → ⊥)) ⊎ Declares sc s t i k → NotStored sc k s' o' cs s₁ o → Since (i ∷ cs) s (some t)
      first (inl (old, free)) n = inl (old, goes free e n)
      first (inr d) n =
          inr
          (record {
            before = [];
            choice = i;
            since = cs;
            is = refl;
            store = s;
            control = t;
            reached = R.stays;
            declares = d;
            next = s₁;
            left = o;
            steps = e;
            untouched = n;
          })

      go : Since cs s₁ o → Since (i ∷ cs) s (some t)
      go (inl (v, n)) = first (unset-before sc s t i s₁ o e k v) n
      go (inr d) =
          inr
          (record {
            before = i ∷ d.before;
            choice = d.choice;
            since = d.since;
            is = ap (λ l. i ∷ l) d.is;
            store = d.store;
            control = d.control;
            reached = R.goes e d.reached;
            declares = d.declares;
            next = d.next;
            left = d.left;
            steps = d.steps;
            untouched = d.untouched;
          })

  pub not-stored-unset : (cs : List ℕ) (s : Store) (o : Option Control) → NotStored sc k s' o' cs s o → UnsetAt s k → UnsetAt s' k
  not-stored-unset _ _ _ stays u = u
  not-stored-unset _ _ _ (goes {i = i} {cs = cs} {s = s} {t = t} {s₁ = s₁} {o = o} free e n) u =
      not-stored-unset cs s₁ o n (unset-after sc s t i s₁ o e k u free)

  -- from the start with nothing none is unset at the beginning
  pub unset-from-nothing : (cs : List ℕ) (o : Option Control) → Reaches (mini_oo sc) s' o' cs empty o → UnsetAt s' k → DeclaredOnly sc k s' o' cs empty o
  unfolding empty
  unset-from-nothing cs o r u = go (unset-only cs empty o r u)
    where
      go : Since cs empty o → DeclaredOnly sc k s' o' cs empty o
      go (inl (v, n)) = absurd (none-ne-some _ v.is)
      go (inr d) = d

  -- the choices are those of the run, with the declaration among them
  not-stored-reaches : (cs : List ℕ) (s : Store) (o : Option Control) → NotStored sc k s' o' cs s o → Reaches (mini_oo sc) s' o' cs s o
  not-stored-reaches _ _ _ stays = R.stays
  not-stored-reaches _ _ _ (goes {cs = cs} {s₁ = s₁} {o = o} free e n) = R.goes e (not-stored-reaches cs s₁ o n)

  pub declared-reaches : (cs : List ℕ) (s : Store) (o : Option Control) → DeclaredOnly sc k s' o' cs s o → Reaches (mini_oo sc) s' o' cs s o
  declared-reaches cs s o d =
      subst (λ ds. Reaches (mini_oo sc) s' o' ds s o) (sym d.is)
      (reach-on (mini_oo sc) s' o' (d.choice ∷ d.since) d.store (some d.control) d.before s o
      (R.goes d.steps (not-stored-reaches d.since d.next d.left d.untouched))
      d.reached)
