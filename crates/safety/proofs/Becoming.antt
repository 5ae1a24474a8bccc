-- What control becomes with something in place of a command: by the rules for control (`InPlace`) it is what `put` computes, and
-- nothing else. Assumes nothing.
use Prim.Native.Nat.{ℕ}
use mathlib.Core.Path.{◌≡◌, refl, ap, ◌∙◌}
use mathlib.Core.Option.{Option, some}
use lib.ListN.{get_elem?}
use Rattle.rules.specs.Syntax.{Cmd}
use Rattle.rules.specs.declared.Chain.{Chain}
use Rattle.rules.specs.Control.{Control, move, movable, goes_to}
use Rattle.rules.specs.Step.{put}
use Rattle.rules.proofs.AgreeTree.{around, tree-if, tree-only}
use Rattle.safety.specs.Atoms.{InPlace}

module _ (cmd_at : ℕ → Cmd) (t : Control) (i : ℕ) (p : Option Control) where
  pub put-becomes : (n : ℕ) (ch : Chain) → get_elem? (movable t) i ≡ some (move n ch) → InPlace cmd_at t i p (put cmd_at t i p)
  unfolding around
  put-becomes n ch e = tree-only cmd_at _ t i n ch (goes_to tt p) e refl

  pub becomes-put : {o : Option Control} → InPlace cmd_at t i p o → o ≡ put cmd_at t i p
  unfolding around
  becomes-put d =
      let m = tree-if cmd_at _ d in
      let e = m.whole ∙ ap (around cmd_at t i) m.makes in
      cc
