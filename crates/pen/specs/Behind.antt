-- The bytes of tokens behind a token: what `Spell` says, seen from the token before, as a pen that goes from left to right needs it. The kind before is
-- all that a gap asks for; kind 0 is nothing, no token stands before. Assumes nothing.
use Rattle.std.specs.Prelude.{ℕ, zero, suc, cond, List, [], ◌∷◌, ◌++◌, Option, Some, None}
use Rattle.grammar.specs.Tokens.{Tok, mark, kind_of}
use Rattle.writing.specs.Spell.{bytes_for, tight}

-- what stands between a token of kind j and one of kind k
unfoldable pub gap_at : ℕ → ℕ → List ℕ
gap_at zero k = []
gap_at (suc j) k = cond (tight (suc j) k) [] (32 ∷ [])

unfoldable pub behind : List (List ℕ) → List (List ℕ) → ℕ → List Tok → List ℕ
behind names fields j [] = []
behind names fields j (t ∷ ts) = gap_at j (kind_of t) ++ (bytes_for names fields t ++ behind names fields (kind_of t) ts)

-- the kind of the last token, or of the one before where there is none
unfoldable pub last_kind : ℕ → List Tok → ℕ
last_kind j [] = j
last_kind j (t ∷ ts) = last_kind (kind_of t) ts

-- a reserved word or a symbol by its kind, where there is one
unfoldable pub mark_of : Option ℕ → List Tok
mark_of None = []
mark_of (Some k) = mark k ∷ []
