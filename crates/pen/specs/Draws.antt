-- What a pen has drawn: `d` with the bytes from where the pen stood is `e`, and the pen stands behind them. Where they would pass byte `most`, those that
-- don't are drawn and the pen is `Over`, and stays so. Bytes past the end of `d` fall away, so nothing is asked of its length: with nothing lent a
-- pen counts. Assumes nothing.
use Rattle.std.specs.Prelude.{ℕ, ◌+◌, ◌-◌, ◌≤◌, ◌<◌, ◌≡◌, List, ◌++◌, length, take, Option, Some, None}
use Rattle.std.proofs.lemmas.List.Edits.{sets}
use Rattle.grammar.specs.Tokens.{Tok}
use Rattle.pen.specs.Behind.{gap_at, behind, last_kind, mark_of}
use Rattle.pen.specs.declared.Place.{Place}
use Rattle.pen.specs.declared.Place.TheVariants.{At, Over}
use Rattle.pen.specs.declared.Pen.{Pen}

-- the bytes and the last kind, each by the kind before
abbrev pub Drawn : ℕ → (ℕ → List ℕ) → (ℕ → ℕ) → List ℕ → Place → List ℕ → Place → Type 0
Drawn most bytes kind d (At at j) e (At k l) = (e ≡ sets d at (bytes j)) × (k ≡ at + length (bytes j)) × (l ≡ kind j) × (length (bytes j) ≤ most - at)
Drawn most bytes kind d (At at j) e Over = (e ≡ sets d at (take (most - at) (bytes j))) × (most - at < length (bytes j))
Drawn most bytes kind d Over e (At k l) = ⊥
Drawn most bytes kind d Over e Over = e ≡ d

-- what stays of a pen: the bytes that it was lent, and how many it may write
pub record Keeps (p r : Pen) : Type 0 where
  pub same_bytes : r.out.ghost_name ≡ p.out.ghost_name
  pub same_most : r.most ≡ p.most

abbrev pub Draws : (ℕ → List ℕ) → (ℕ → ℕ) → Pen → Pen → Type 0
Draws bytes kind p r = Drawn p.most bytes kind p.out.now p.place r.out.now r.place

-- bytes within a token
pub record Puts (bs : List ℕ) (p r : Pen) : Type 0 where
  pub says : Draws (λ j. bs) (λ j. j) p r
  pub keeps : Keeps p r

-- the gap before a token of kind k
pub record Gaps (k : ℕ) (p r : Pen) : Type 0 where
  pub says : Draws (λ j. gap_at j k) (λ j. j) p r
  pub keeps : Keeps p r

-- a token of kind k with its bytes, and the gap before it
pub record Token (k : ℕ) (bs : List ℕ) (p r : Pen) : Type 0 where
  pub says : Draws (λ j. gap_at j k ++ bs) (λ j. k) p r
  pub keeps : Keeps p r

-- tokens
pub record Writes (names fields : List (List ℕ)) (ts : List Tok) (p r : Pen) : Type 0 where
  pub says : Draws (λ j. behind names fields j ts) (λ j. last_kind j ts) p r
  pub keeps : Keeps p r

-- a mark, or nothing
pub record Marks (k : Option ℕ) (p r : Pen) : Type 0 where
  pub says : (names fields : List (List ℕ)) → Writes names fields (mark_of k) p r

-- the place behind a token of kind k
abbrev pub kinded : ℕ → Place → Place
kinded k (At at j) = At at k
kinded k Over = Over

-- no byte, and the kind of the token
pub record Turns (k : ℕ) (p r : Pen) : Type 0 where
  pub place : r.place ≡ kinded k p.place
  pub bytes : r.out.now ≡ p.out.now
  pub keeps : Keeps p r

-- how many bytes are drawn
abbrev pub end_of : Place → Option ℕ
end_of (At at j) = Some at
end_of Over = None
