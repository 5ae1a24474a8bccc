-- What the next place of a text is, as the reader finds it: a kind (0 the end, 1 to 28 as in Tokens, 29 a bad byte), the bytes from one
-- number up to another, and the line. What stands there is put before the places of what follows, whatever they are. Assumes nothing.
use Rattle.std.specs.Prelude.{ℕ, ◌+◌, ◌<◌, ◌≤◌, ◌≡◌, cond, List, [], ◌∷◌, eqb, length, get_or, drop}
use Rattle.std.proofs.Math.Seq.{slice}
use Rattle.grammar.specs.Places.{Piece, variable, field_word, digits, marked, bad_byte, Spot, spot, Spelled, decimal, line_from}
use Rattle.letters.specs.Past.{past}
use Rattle.letters.specs.Pieces.{piece_end, piece_kind}
use Rattle.letters.specs.declared.places.Place.{Place}

-- what a kind and the bytes of a place say
unfoldable pub piece_by : ℕ → List ℕ → Piece
piece_by k w =
    cond (eqb k 1)
    (variable w)
    (cond (eqb k 2) (field_word w) (cond (eqb k 3) (digits (decimal w)) (cond (eqb k 29) (bad_byte (get_or w 0 0)) (marked k))))

-- a piece that begins at a byte
pub record Stands (text : List ℕ) (at line : ℕ) (r : Place) : Type 0 where
  pub is-from : r.from ≡ at
  pub is-to : r.to ≡ piece_end text at
  pub is-kind : r.kind ≡ piece_kind text at r.to
  pub is-line : r.line ≡ line
  pub not-empty : at < r.to
  pub within : r.to ≤ length text
  pub a-kind : 0 < r.kind
  pub known : r.kind ≤ 29
  pub spelled : (ps : List Spot)
      → Spelled (drop r.to text) line ps
      → Spelled (drop at text) line (spot line (piece_by r.kind (slice at r.to text)) ∷ ps)

-- nothing but blanks is left
pub record Ended (text : List ℕ) (at line : ℕ) (r : Place) : Type 0 where
  pub is-from : r.from ≡ length text
  pub is-to : r.to ≡ length text
  pub is-line : r.line ≡ line_from line (drop at text)
  pub spelled : Spelled (drop at text) line []

-- a piece, and then what follows it
pub record Found (text : List ℕ) (at line : ℕ) (r : Place) : Type 0 where
  pub is-to : r.to ≡ piece_end text r.from
  pub is-kind : r.kind ≡ piece_kind text r.from r.to
  pub not-before : at ≤ r.from
  pub not-empty : r.from < r.to
  pub within : r.to ≤ length text
  pub few-lines : r.line ≤ r.to + 1
  pub known : r.kind ≤ 29
  pub spelled : (ps : List Spot)
      → Spelled (drop r.to text) r.line ps
      → Spelled (drop at text) line (spot r.line (piece_by r.kind (slice r.from r.to text)) ∷ ps)

-- it begins where the blanks end
pub record NextSays (text : List ℕ) (at line : ℕ) (r : Place) : Type 0 where
  pub past-blanks : (r.from ≡ (past text at line).at) × (r.line ≡ (past text at line).line)
  pub at-end : r.kind ≡ 0 → Ended text at line r
  pub found : (r.kind ≡ 0 → ⊥) → Found text at line r
