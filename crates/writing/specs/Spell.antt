-- From tokens to bytes: a list has the word of each name, another the word of each field; reserved words and symbols are spelled as the grammar's
-- tables say. One blank stands between two tokens, except where a person writes none: `{A = 1; B = 2}`, `X.f = P - -1`, `Q(X - 1)`. That such
-- a text has just these tokens at its places is shown in proofs/SpellsBack. Where there are no words, names are made up as A0, A1, .., fields as a0, a1, ..
-- Assumes nothing.
use Rattle.std.specs.Prelude.{ℕ, zero, suc, ◌+◌, ◌-◌, ◌/◌, ◌%◌, ◌≤◌, ◌<◌, ◌≡◌, Bool, true, false, cond, ◌&&◌, ◌||◌, List, [], ◌∷◌, ◌++◌, get_or, eqb, ltb}
use Rattle.grammar.specs.Classes.{upper, line_end, class_of, in_word, among}
use Rattle.grammar.specs.Tokens.{Tok, name, field_name, number, mark, kind_of, Spelling, spelling, reserved, single, double}
use Rattle.grammar.specs.Places.{Piece, variable, field_word, digits, marked, Spot, spot, every}
use Rattle.grammar.specs.FieldList.{Entry, entry}

-- ---- numbers

-- the last digit, in front of s, and what f says of the others; none where there is but one digit
unfoldable pub last_digit : Bool → ℕ → List ℕ → (ℕ → List ℕ → List ℕ) → List ℕ
last_digit true n s f = (48 + n) ∷ s
last_digit false n s f = f (n / 10) ((48 + n % 10) ∷ s)

-- the digits of n in front of s; k is at least n, so that the recursion ends
unfoldable pub decimal_before : ℕ → ℕ → List ℕ → List ℕ
decimal_before zero n s = (48 + n) ∷ s
decimal_before (suc k) n s = last_digit (ltb n 10) n s (decimal_before k)

unfoldable pub decimal_of : ℕ → List ℕ
decimal_of n = decimal_before n n []

-- ---- reserved words and symbols

-- both minuses are spelled with byte 45: what stands behind them makes them one or the other
unfoldable pub marks : List Spelling
marks = reserved ++ (single ++ (double ++ (spelling (45 ∷ []) 4 ∷ spelling (45 ∷ []) 5 ∷ [])))

unfoldable pub spelled_as : ℕ → List Spelling → List ℕ
spelled_as k [] = []
spelled_as k (spelling w j ∷ rest) = cond (eqb k j) w (spelled_as k rest)

unfoldable pub has_kind : ℕ → List Spelling → Bool
has_kind k [] = false
has_kind k (spelling w j ∷ rest) = eqb k j || has_kind k rest

-- ---- tokens

module _ (names fields : List (List ℕ)) where
  unfoldable pub bytes_for : Tok → List ℕ
  bytes_for (name x) = get_or names x []
  bytes_for (field_name f) = get_or fields (f - 1) []
  bytes_for (number n) = decimal_of n
  bytes_for (mark k) = spelled_as k marks

  -- what stands at the token's place
  unfoldable pub piece_for : Tok → Piece
  piece_for (name x) = variable (get_or names x [])
  piece_for (field_name f) = field_word (get_or fields (f - 1) [])
  piece_for (number n) = digits n
  piece_for (mark k) = marked k

-- nothing stands behind a sign, ( { and a dot; nothing before ) } ; a dot and a colon; nothing between what can be called, malloc or atom and (
unfoldable pub opening : List ℕ
opening = 4 ∷ 17 ∷ 19 ∷ 23 ∷ []

unfoldable pub closing : List ℕ
closing = 18 ∷ 20 ∷ 21 ∷ 23 ∷ 27 ∷ []

unfoldable pub called : List ℕ
called = 1 ∷ 2 ∷ 11 ∷ 16 ∷ 18 ∷ []

unfoldable pub tight : ℕ → ℕ → Bool
tight j k = among j opening || (among k closing || (eqb k 17 && among j called))

unfoldable pub gap : Tok → List Tok → List ℕ
gap t [] = []
gap t (u ∷ us) = cond (tight (kind_of t) (kind_of u)) [] (32 ∷ [])

unfoldable pub spell : List (List ℕ) → List (List ℕ) → List Tok → List ℕ
spell names fields [] = []
spell names fields (t ∷ ts) = bytes_for names fields t ++ (gap t ts ++ spell names fields ts)

-- and its places, all on one line
unfoldable pub places_for : List (List ℕ) → List (List ℕ) → ℕ → List Tok → List Spot
places_for names fields l [] = []
places_for names fields l (t ∷ ts) = spot l (piece_for names fields t) ∷ places_for names fields l ts

-- ---- what can be spelled

-- a variable name: an upper-case letter, letters and digits after it
pub record VariableName (w : List ℕ) : Type 0 where
  pub first : ℕ
  pub rest : List ℕ
  pub is : w ≡ first ∷ rest
  pub up : class_of first ≡ upper
  pub follow : every in_word rest ≡ true

abbrev pub Each : (List ℕ → Type 0) → List (List ℕ) → Type 0
Each P [] = Unit {0}
Each P (w ∷ ws) = P w × Each P ws

-- a token, with N names and F fields
abbrev pub Spells : ℕ → ℕ → Tok → Type 0
Spells N F (name x) = x < N
Spells N F (field_name f) = (1 ≤ f) × (f ≤ F)
Spells N F (number n) = Unit {0}
Spells N F (mark k) = has_kind k marks ≡ true

abbrev pub IsNumber : Tok → Type 0
IsNumber (name x) = ⊥
IsNumber (field_name f) = ⊥
IsNumber (number n) = Unit {0}
IsNumber (mark k) = ⊥

abbrev pub NumberFirst : List Tok → Type 0
NumberFirst [] = ⊥
NumberFirst (t ∷ ts) = IsNumber t

-- all tokens can be spelled, and behind each sign stands a number
abbrev pub Spellable : ℕ → ℕ → List Tok → Type 0
Spellable N F [] = Unit {0}
Spellable N F (t ∷ ts) = Spells N F t × (kind_of t ≡ 4 → NumberFirst ts) × Spellable N F ts

-- ---- words that are made up: `up_to made_up n` are n names

unfoldable pub made_up : ℕ → List ℕ
made_up n = 65 ∷ decimal_of n

unfoldable pub made_up_field : ℕ → List ℕ
made_up_field n = 97 ∷ decimal_of n

-- fields of these codes, each with a word of its own
unfoldable pub entries_for : (ℕ → List ℕ) → List ℕ → List Entry
entries_for word [] = []
entries_for word (k ∷ ks) = entry (word 0) k ∷ entries_for (λ i. word (suc i)) ks

-- ---- the list of fields: a row is a word, a comma, a code and byte 10

unfoldable pub list_of : List Entry → List ℕ
list_of [] = []
list_of (entry w k ∷ fs) = w ++ (44 ∷ (decimal_of k ++ (line_end ∷ list_of fs)))
