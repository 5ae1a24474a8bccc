-- The cut of the read is not seen: the first 16,427 bytes of a script's file give what the whole file gives. Assumes nothing.
use Prim.Native.Nat.{ℕ}
use mathlib.Core.Path.{◌≡◌}
use mathlib.Core.Option.{none, some}
use mathlib.Core.List.{List, []}
use lib.ListN.{take}
use Rattle.rules.specs.declared.Verdict.TheVariants.{Refused}
use Rattle.rules.specs.State.{size}
use Rattle.rules.specs.Refusals.{check}
use Rattle.listed.specs.Listing.{refused_line}
use Rattle.listed.proofs.Cut.{script-cut}
use Rattle.chooser.specs.Makes.{Made, made_by, makes}

abbrev refused : ℕ → ℕ → Made
refused k p = record { printed = refused_line k p; file = none }

made-refused : (img : List ℕ) (k p : ℕ) → check [] size img ≡ Refused k p → makes (some img) ≡ refused k p
unfolding makes made_by
made-refused img k p e = rw e

pub cut-unseen : (img : List ℕ) → makes (some (take 16427 img)) ≡ makes (some img)
cut-unseen img = script-cut (λ t. makes (some t)) refused made-refused img
