-- Of Becoming, what follows from its last lemma, in a file of its own: so a must-fail edit that makes that lemma fail is read as refused. Assumes nothing.
use Prim.Native.Nat.{ℕ}
use mathlib.Core.Path.{◌≡◌, sym, ◌∙◌}
use mathlib.Core.Option.{Option}
use Rattle.rules.specs.Syntax.{Cmd}
use Rattle.rules.specs.Control.{Control}
use Rattle.safety.specs.Atoms.{InPlace}
use Rattle.safety.proofs.Becoming.{becomes-put}

module _ (cmd_at : ℕ → Cmd) (t : Control) (i : ℕ) (p : Option Control) where
  pub becomes-once : {o o' : Option Control} → InPlace cmd_at t i p o → InPlace cmd_at t i p o' → o ≡ o'
  becomes-once d d' = becomes-put cmd_at t i p d ∙ sym (becomes-put cmd_at t i p d')
