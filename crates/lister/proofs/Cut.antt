-- The cut of the reads is not seen: of a script the first 16,427 bytes, and of the choices the first 4,097, print what the
-- whole files print. Assumes nothing.
use Prim.Native.Nat.{ℕ, ◌≤◌}
use mathlib.Core.Path.{◌≡◌, sym, ap, ◌∙◌}
use mathlib.Core.Option.{some}
use mathlib.Core.List.{List}
use native.Mathlib.Omega.{arith}
use native.Mathlib.Decide.{dec_lt}
use lib.ListN.{length, take}
use lib.Seq.{take_all, length-take-le}
use Rattle.listed.specs.Listing.{listing, refused_line, printed}
use Rattle.listed.proofs.Cut.{script-cut}
use Rattle.lister.proofs.Listed.{text-refused}
use Rattle.lister.proofs.Printed.{printed-whole, printed-long}

pub cut-unseen : (img cs : List ℕ) → printed (some (take 16427 img)) (some (take 4097 cs)) ≡ printed (some img) (some cs)
cut-unseen img cs = elim (dec_lt 4096 (length cs)) [
  | yes l ↦
      let n = length-take-le 4097 cs (omega arith) in
      printed-long (take 16427 img) (take 4097 cs) (omega arith) ∙ sym (printed-long img cs l)
  | no f ↦
      let h : length cs ≤ 4096 = omega arith in
      ap (λ (t : List ℕ). printed (some (take 16427 img)) (some t)) (take_all 4097 cs (omega arith))
      ∙ printed-whole (take 16427 img) cs h
      ∙ script-cut (λ t. listing t cs) refused_line (λ t k p e. sym (text-refused t cs k p e)) img
      ∙ sym (printed-whole img cs h)
]
