-- What a token of a place is worth: the number of its name, the index of its field, its integer; or why it has none. Assumes nothing.
use Rattle.std.specs.Prelude.{ℕ, suc, ◌<◌, ◌≤◌, ◌≡◌, cond, List, map, ltb, length, Option, Some, None, Result, Ok, Err}
use Rattle.std.proofs.Math.Option.{none, some}
use Rattle.rules.specs.Image.{most_names}
use Rattle.grammar.specs.Tokens.{Tok, kind_of, value_of}
use Rattle.grammar.specs.Places.{Piece, variable, field_word, digits}
use Rattle.grammar.specs.FieldList.{Entry, word_of, position_of}
use Rattle.grammar.specs.Names.{noted, token_of}
use Rattle.judging.specs.declared.worth.Worth.{Worth}
use Rattle.judging.specs.declared.worth.Worth.TheVariants.{Known, New}
use Rattle.judging.specs.declared.wrong.Wrong.{Wrong}
use Rattle.judging.specs.declared.wrong.Wrong.TheVariants.{NoField, TooLarge, OneNameMore}
use Rattle.judging.specs.Wrong.{wrong_no}

-- the token of a piece p of kind k, with a value v, is there, given the names so far
pub record Valid (fields : List Entry) (names : List (List ℕ)) (p : Piece) (k v : ℕ) : Type 0 where
  pub token : Tok
  pub is : token_of (map word_of fields) (noted names p) p ≡ some token
  pub kind : kind_of token ≡ k
  pub value : value_of token ≡ v
  pub few : length (noted names p) ≤ most_names

-- 24: the field isn't in the list; 25: no integer is so large; 26: a new name where there are 128
pub data Fails (fields : List Entry) (names : List (List ℕ)) : Piece → ℕ → ℕ → Type 0 where
  no_field : {w : List ℕ} → position_of w (map word_of fields) ≡ none → Fails fields names (field_word w) 2 24
  too_large : {n : ℕ} → 2147483648 < n → Fails fields names (digits n) 3 25
  one-name-more : {w : List ℕ} → position_of w names ≡ none → length names ≡ most_names → Fails fields names (variable w) 1 26

-- v is known; or it is the number of a name that is new; or what is wrong
abbrev pub WorthSays : List Entry → List (List ℕ) → Piece → ℕ → Result Worth Wrong → Type 0
WorthSays fields names p k (Ok (Known v)) = Valid fields names p k v × (noted names p ≡ names) × (k ≡ 1 → v < most_names)
WorthSays fields names p k (Ok New) = Valid fields names p k (length names) × (k ≡ 1) × (length names < most_names)
WorthSays fields names p k (Err w) = Fails fields names p k (wrong_no w)

-- ---- what the functions below it say, of a place from 0, where there is one, and of the number of names so far; fields are counted from 1

unfoldable pub name_worth : Option ℕ → ℕ → Result Worth Wrong
name_worth None n = cond (ltb n most_names) (Ok New) (Err OneNameMore)
name_worth (Some i) n = Ok (Known i)

unfoldable pub field_worth : Option ℕ → Result Worth Wrong
field_worth None = Err NoField
field_worth (Some i) = Ok (Known (suc i))

unfoldable pub number_worth : ℕ → Result Worth Wrong
number_worth n = cond (ltb 2147483648 n) (Err TooLarge) (Ok (Known n))
