-- What a written script is read as: order 1's answers. `Reads` says which image a text stands for; `Wrong` and `RefusedText` have a sentence for each of the
-- refusals 22 to 27, and `Refuses` for all of them. There is no order of reading here: "the first place" is the first with which the text can't
-- go on to a text of the grammar, within the list and the limits. That there is always just one answer is shown in `reading`. Assumes nothing.
use Rattle.std.specs.Prelude.{ℕ, ◌+◌, ◌*◌, ◌<◌, ◌≤◌, ◌≡◌, List, [], ◌∷◌, ◌++◌, map, length}
use Rattle.std.proofs.Math.Option.{none, some}
use Rattle.rules.specs.Syntax.{Cmd}
use Rattle.rules.specs.Image.{most_fields, most_nodes, most_names}
use Rattle.rules.specs.Published.{image}
use Rattle.grammar.specs.Tokens.{Tok, number, kind_of}
use Rattle.grammar.specs.Places.{Piece, variable, field_word, digits, bad_byte, Spot, spot, Spelled, last_line}
use Rattle.grammar.specs.FieldList.{Entry, word_of, code_of, Listed, position_of}
use Rattle.grammar.specs.Grammar.{Writes, a_command, Text, Begins, BeginsAlike}
use Rattle.grammar.specs.Nodes.{size_cmd, table_cmd}
use Rattle.grammar.specs.Names.{names_in, tokens_of, piece_kind}

-- ---- what is accepted

-- the places have tokens: each field is in the list, and the names are at most 128
pub record Valued (fields : List Entry) (ps : List Spot) (ts : List Tok) : Type 0 where
  pub few-names : length (names_in ps) ≤ most_names
  pub tokens : tokens_of (map word_of fields) (names_in ps) ps ≡ some ts

pub record ReadsText (fields : List Entry) (text img : List ℕ) : Type 0 where
  pub places : List Spot
  pub spelled : Spelled text 1 places
  pub tokens : List Tok
  pub valued : Valued fields places tokens
  pub tree : Cmd  -- "the image's tree being the only reading"
  pub writes : Writes (a_command tree) tokens
  pub few-nodes : size_cmd tree ≤ most_nodes
  pub is : img ≡ image (map code_of fields) (table_cmd 0 tree) (length (names_in places))

-- ---- what is refused in a text

-- the places before a place are right: a text of the grammar begins with their tokens
pub record Right (fields : List Entry) (before : List Spot) (us : List Tok) : Type 0 where
  pub valued : Valued fields before us
  pub begins : Begins us

-- a text can go on with this kind of token, whatever its name, field or number
abbrev pub GoesOn : List Tok → ℕ → Type 0
GoesOn us k = BeginsAlike (map kind_of us ++ (k ∷ []))

-- what is wrong at a place, by number
pub data Wrong (fields : List Entry) (before : List Spot) (us : List Tok) : Piece → ℕ → Type 0 where
  bad-byte : {b : ℕ} → Wrong fields before us (bad_byte b) 22
  bad-order : {p : Piece} {k : ℕ} → piece_kind p ≡ some k → (GoesOn us k → ⊥) → Wrong fields before us p 23
  unknown-field : {w : List ℕ} → GoesOn us 2 → position_of w (map word_of fields) ≡ none → Wrong fields before us (field_word w) 24
  outside-32-bits : {n : ℕ} → GoesOn us 3 → (Begins (us ++ (number n ∷ [])) → ⊥) → Wrong fields before us (digits n) 25
  too-many-names : {w : List ℕ}
      → GoesOn us 1 → position_of w (names_in before) ≡ none → length (names_in before) ≡ most_names → Wrong fields before us (variable w) 26

-- number and line
pub data RefusedText (fields : List Entry) (text : List ℕ) : ℕ → ℕ → Type 0 where
  at-a-place : {before : List Spot} (after : List Spot) {us : List Tok} {l k : ℕ} {p : Piece}
      → Spelled text 1 (before ++ (spot l p ∷ after)) → Right fields before us → Wrong fields before us p k → RefusedText fields text k l
  early-end : {ps : List Spot} {us : List Tok} → Spelled text 1 ps → Right fields ps us → (Text us → ⊥) → RefusedText fields text 23 (last_line text)
  too-many-nodes : {ps : List Spot} {us : List Tok}
      → Spelled text 1 ps → Valued fields ps us → (t : Text us) → most_nodes < size_cmd t.command → RefusedText fields text 27 0

-- ---- all answers, by the lengths of what is lent

-- the largest image: 16,426 bytes
abbrev pub most_bytes : ℕ
most_bytes = 10 + 2 * most_fields + 8 * most_nodes

-- the words that are lent for a text of n bytes
abbrev pub words_for : ℕ → ℕ
words_for n = 3 * n + 4

-- enough is lent
abbrev pub Lent : ℕ → ℕ → List ℕ → Type 0
Lent out work text = (most_bytes ≤ out) × (words_for (length text) ≤ work)

pub record Reads (out work : ℕ) (list text img : List ℕ) : Type 0 where
  pub lent : Lent out work text
  pub fields : List Entry
  pub listed : Listed list fields
  pub read : ReadsText fields text img

pub data Refuses (out work : ℕ) (list text : List ℕ) : ℕ → ℕ → Type 0 where
  short-output : out < most_bytes → Refuses out work list text 20 0
  short-work : most_bytes ≤ out → work < words_for (length text) → Refuses out work list text 28 0
  bad-list : Lent out work text → ((fields : List Entry) → Listed list fields → ⊥) → Refuses out work list text 21 0
  bad-text : {fields : List Entry} {k l : ℕ} → Lent out work text → Listed list fields → RefusedText fields text k l → Refuses out work list text k l
