-- From places to tokens: order 1, "names are numbered by first appearance", and a field name is known by its row in the list. Assumes nothing.
use Rattle.std.specs.Prelude.{ℕ, suc, cond, List, [], ◌∷◌, ◌++◌}
use Rattle.std.proofs.Math.Option.{Option, none, some}
use Rattle.grammar.specs.Tokens.{Tok, name, field_name, number, mark}
use Rattle.grammar.specs.Places.{Piece, variable, field_word, digits, marked, bad_byte, Spot, spot, present}
use Rattle.grammar.specs.FieldList.{position_of}

-- the names so far, and what stands at a place
unfoldable pub noted : List (List ℕ) → Piece → List (List ℕ)
noted ns (variable w) = cond (present (position_of w ns)) ns (ns ++ (w ∷ []))
noted ns (field_word w) = ns
noted ns (digits n) = ns
noted ns (marked k) = ns
noted ns (bad_byte b) = ns

unfoldable pub names_from : List (List ℕ) → List Spot → List (List ℕ)
names_from ns [] = ns
names_from ns (spot l p ∷ ps) = names_from (noted ns p) ps

-- the different names of a text, each where it first appears
unfoldable pub names_in : List Spot → List (List ℕ)
names_in ps = names_from [] ps

-- ---- the token at a place; none for a name or a field that isn't in its list, and for a bad byte

abbrev pub by_name : Option ℕ → Option Tok
by_name none = none
by_name (some x) = some (name x)

abbrev pub by_field : Option ℕ → Option Tok
by_field none = none
by_field (some i) = some (field_name (suc i))

unfoldable pub token_of : List (List ℕ) → List (List ℕ) → Piece → Option Tok
token_of fields ns (variable w) = by_name (position_of w ns)
token_of fields ns (field_word w) = by_field (position_of w fields)
token_of fields ns (digits n) = some (number n)
token_of fields ns (marked k) = some (mark k)
token_of fields ns (bad_byte b) = none

abbrev pub in_front : Option Tok → Option (List Tok) → Option (List Tok)
in_front none o = none
in_front (some t) none = none
in_front (some t) (some ts) = some (t ∷ ts)

unfoldable pub tokens_of : List (List ℕ) → List (List ℕ) → List Spot → Option (List Tok)
tokens_of fields ns [] = some []
tokens_of fields ns (spot l p ∷ ps) = in_front (token_of fields ns p) (tokens_of fields ns ps)

-- the kind of token that stands at a place, whatever its name, field or number; none for a bad byte
unfoldable pub piece_kind : Piece → Option ℕ
piece_kind (variable w) = some 1
piece_kind (field_word w) = some 2
piece_kind (digits n) = some 3
piece_kind (marked k) = some k
piece_kind (bad_byte b) = none
