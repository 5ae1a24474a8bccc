-- "Frames and objects are numbered as they are made and not given back" (document 01, "State"), over a run: whatever choices
-- are made, a frame that is there stays there under its number, with its name and its outer frames, and there are no fewer
-- frames and objects than before; a new one has the number of those made before it. Assumes nothing.
use Prim.Native.Nat.{ℕ}
use mathlib.Core.Path.{◌≡◌, subst, sym}
use mathlib.Core.Option.{Option, some}
use mathlib.Core.List.{List}
use lib.ListN.{replicate}
use Rattle.rules.specs.declared.Frame.{Frame}
use Rattle.rules.specs.declared.Value.TheVariants.{Null}
use Rattle.rules.specs.State.{Store, push_frame, push_object, object, frame_at, object_at, next_frame, next_object}
use Rattle.rules.specs.Script.{Script}
use Rattle.rules.specs.Control.{Control}
use Rattle.rules.specs.Step.{mini_oo}
use Rattle.rules.proofs.StoreLaws.{push-new, object-new}
use Rattle.safety.specs.Reaches.{Reaches, stays, goes}
use Rattle.safety.proofs.Later.{Later, later_same, later-on, later}
use Rattle.safety.proofs.ReachesStep.{goes-only}

-- ---- over a run

pub not-given-back : (sc : Script) (s' : Store) (o' : Option Control) (cs : List ℕ) (s : Store) (o : Option Control)
    → Reaches (mini_oo sc) s' o' cs s o → Later s s'
unfolding mini_oo
not-given-back sc s' o' _ _ _ stays = later_same s'
not-given-back sc s' o' _ _ _ (goes {i = i} {cs = cs} {s = s} {t = t} {s₁ = s₁} {o = o} e r) =
    let g = goes-only (mini_oo sc) s t i s₁ o e in
    let one : Later s s₁ = subst (Later s) (sym g.store) (later sc s g.effect) in
    later-on s s₁ s' one (not-given-back sc s' o' cs s₁ o r)

-- ---- numbered as they are made

pub frame-numbered : (s : Store) (f : Frame) → frame_at (push_frame f s) (next_frame s) ≡ some f
frame-numbered s f = push-new f s

pub object-numbered : (F : ℕ) (s : Store) → object_at (push_object F s) (next_object s) ≡ some (object (replicate F Null))
object-numbered F s = object-new F s
