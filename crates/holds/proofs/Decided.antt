-- Words that hold a state hold no other. Assumes nothing.
use Prim.Native.Nat.{ℕ}
use mathlib.Core.Path.{◌≡◌}
use mathlib.Core.List.{List}
use Rattle.words.proofs.Decides.{laid-out-once}
use Rattle.holds.specs.Holds.{Holding}
use Rattle.holds.proofs.Fitting.{laid_out}

pub held-once : (img ws : List ℕ) (h k : Holding img ws) → (h.store ≡ k.store) × (h.control ≡ k.control)
held-once img ws h k =
    laid-out-once h.store k.store h.control k.control h.rest k.rest ws
    (laid_out img h.store h.control h.rest ws h.holds)
    (laid_out img k.store k.control k.rest ws k.holds)
