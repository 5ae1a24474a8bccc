-- The places of a text one after the other, as far as byte `at`, which is behind the last of them and stands on line `line`. Assumes nothing.
use Rattle.std.specs.Prelude.{ℕ, ◌<◌, List, [], ◌∷◌, ◌++◌}
use Rattle.std.proofs.Math.Seq.{slice}
use Rattle.grammar.specs.Places.{Piece, Spot, spot}
use Rattle.letters.specs.declared.places.Place.{Place}
use Rattle.letters.specs.Says.{piece_by, NextSays}

-- what stands at a place
abbrev pub piece_at : List ℕ → Place → Piece
piece_at text r = piece_by r.kind (slice r.from r.to text)

pub data Upto (text : List ℕ) : ℕ → ℕ → List Spot → Type 0 where
  none_yet : Upto text 0 1 []
  one_more : {at line : ℕ} {before : List Spot} {p : Place}
      → Upto text at line before → NextSays text at line p → 0 < p.kind → Upto text p.to p.line (before ++ (spot p.line (piece_at text p) ∷ []))
