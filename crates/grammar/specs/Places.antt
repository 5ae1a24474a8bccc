-- The places of a text: order 1, "Words and numbers run as far as they can. .. Blanks are bytes 9, 10, 13 and 32; lines count from 1, by
-- byte 10." A place is a word, a number, a symbol or a bad byte, with the line where it stands; `Spelled s l ps` says that s, which begins on
-- line l, has the places ps. Each byte is a blank or belongs to one place, and every text has just one list of places (proofs/Spelling). Assumes nothing.
use Rattle.std.specs.Prelude.{ℕ, suc, ◌+◌, ◌*◌, ◌-◌, ◌≡◌, Bool, true, false, cond, ◌&&◌, List, [], ◌∷◌, ◌++◌, eqb}
use Rattle.std.proofs.Math.Option.{Option, none, some}
use Rattle.grammar.specs.Classes.{no_class, blank, upper, line_end, class_of, is_letter, is_digit, in_word}
use Rattle.grammar.specs.Tokens.{reserved, single, double, spelled}

-- what stands at a place
pub data Piece : Type 0 where
  variable : List ℕ → Piece  -- "Variable names begin with an upper-case letter"
  field_word : List ℕ → Piece  -- "field names with a lower-case one"
  digits : ℕ → Piece  -- a number, by what it says
  marked : ℕ → Piece  -- a reserved word or a symbol, by its kind
  bad_byte : ℕ → Piece

pub data Spot : Type 0 where
  spot : ℕ → Piece → Spot  -- line, what stands there

-- ---- a word, a number

unfoldable pub lower_or : Option ℕ → List ℕ → Piece
lower_or none w = field_word w
lower_or (some k) w = marked k

unfoldable pub word_piece : ℕ → List ℕ → Piece  -- of its first letter and what follows
word_piece b w = cond (eqb (class_of b) upper) (variable (b ∷ w)) (lower_or (spelled (b ∷ w) reserved) (b ∷ w))

unfoldable pub decimal_from : ℕ → List ℕ → ℕ
decimal_from n [] = n
decimal_from n (d ∷ ds) = decimal_from (10 * n + (d - 48)) ds

unfoldable pub decimal : List ℕ → ℕ
decimal ds = decimal_from 0 ds

-- ---- the places

unfoldable pub every : (ℕ → Bool) → List ℕ → Bool
every p [] = true
every p (b ∷ s) = p b && every p s

unfoldable pub begins : (ℕ → Bool) → List ℕ → Bool
begins p [] = false
begins p (b ∷ s) = p b

unfoldable pub present : Option ℕ → Bool
present none = false
present (some k) = true

-- b and the byte after it are one symbol
unfoldable pub paired : ℕ → ℕ → Bool
paired b c = present (spelled (b ∷ c ∷ []) double)

-- the line after a byte
unfoldable pub line_after : ℕ → ℕ → ℕ
line_after b l = cond (eqb b line_end) (suc l) l

pub data Spelled : List ℕ → ℕ → List Spot → Type 0 where
  ends : {l : ℕ} → Spelled [] l []
  a-blank : {b l : ℕ} {s : List ℕ} {ps : List Spot} → class_of b ≡ blank → Spelled s (line_after b l) ps → Spelled (b ∷ s) l ps
  a_word : {b l : ℕ} (w : List ℕ) {s : List ℕ} {ps : List Spot}
      → is_letter b ≡ true → every in_word w ≡ true → begins in_word s ≡ false → Spelled s l ps → Spelled (b ∷ (w ++ s)) l (spot l (word_piece b w) ∷ ps)
  a-number : {b l : ℕ} (w : List ℕ) {s : List ℕ} {ps : List Spot}
      → is_digit b ≡ true → every is_digit w ≡ true → begins is_digit s ≡ false → Spelled s l ps → Spelled (b ∷ (w ++ s)) l (spot l (digits (decimal (b ∷ w))) ∷ ps)
  a-symbol : {b l k : ℕ} {s : List ℕ} {ps : List Spot}
      → spelled (b ∷ []) single ≡ some k → begins (paired b) s ≡ false → Spelled s l ps → Spelled (b ∷ s) l (spot l (marked k) ∷ ps)
  a_pair : {b c l k : ℕ} {s : List ℕ} {ps : List Spot}
      → spelled (b ∷ c ∷ []) double ≡ some k → Spelled s l ps → Spelled (b ∷ c ∷ s) l (spot l (marked k) ∷ ps)
  a-sign : {l : ℕ} {s : List ℕ} {ps : List Spot} → begins is_digit s ≡ true → Spelled s l ps → Spelled (45 ∷ s) l (spot l (marked 4) ∷ ps)
  a-minus : {l : ℕ} {s : List ℕ} {ps : List Spot} → begins is_digit s ≡ false → Spelled s l ps → Spelled (45 ∷ s) l (spot l (marked 5) ∷ ps)
  a-bad-byte : {b l : ℕ} {s : List ℕ} {ps : List Spot} → class_of b ≡ no_class → Spelled s l ps → Spelled (b ∷ s) l (spot l (bad_byte b) ∷ ps)

-- the line of a text's end: 1 and the bytes 10 of the whole text
unfoldable pub line_from : ℕ → List ℕ → ℕ
line_from l [] = l
line_from l (b ∷ s) = line_from (line_after b l) s

unfoldable pub last_line : List ℕ → ℕ
last_line s = line_from 1 s
