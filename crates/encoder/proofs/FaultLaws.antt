-- The numbers of what is wrong with a text are 22 to 27. Assumes nothing.
use Prim.Native.Nat.{ℕ, ◌≤◌}
use mathlib.Core.List.{List}
use native.Mathlib.Omega.{arith}
use Rattle.grammar.specs.FieldList.{Entry}
use Rattle.grammar.specs.Tokens.{Tok}
use Rattle.grammar.specs.Places.{Piece, Spot}
use Rattle.grammar.specs.Reads.{Wrong, bad-byte, bad-order, unknown-field, outside-32-bits, too-many-names, RefusedText, at-a-place, early-end, too-many-nodes}

wrong-between : {fields : List Entry} {before : List Spot} {us : List Tok} {p : Piece} {k : ℕ} → Wrong fields before us p k → (22 ≤ k) × (k ≤ 27)
wrong-between bad-byte = (omega arith, omega arith)
wrong-between (bad-order e n) = (omega arith, omega arith)
wrong-between (unknown-field g e) = (omega arith, omega arith)
wrong-between (outside-32-bits g n) = (omega arith, omega arith)
wrong-between (too-many-names g e l) = (omega arith, omega arith)

pub refused-between : {fields : List Entry} {text : List ℕ} {k l : ℕ} → RefusedText fields text k l → (22 ≤ k) × (k ≤ 27)
refused-between (at-a-place after s r w) = wrong-between w
refused-between (early-end s r n) = (omega arith, omega arith)
refused-between (too-many-nodes s v t n) = (omega arith, omega arith)
