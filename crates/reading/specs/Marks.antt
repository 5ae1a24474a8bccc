-- What a token has to be for its kind to say what it is: a mark of kind 1, 2 or 3 would look like a name, a field or a number and is none.
-- The tokens that a text is made of are known in this sense. Assumes nothing.
use Rattle.std.specs.Prelude.{◌<◌, List, [], ◌∷◌}
use Rattle.grammar.specs.Tokens.{Tok, name, field_name, number, mark}

abbrev pub IsMark : Tok → Type 0
IsMark (name x) = Unit {0}
IsMark (field_name f) = Unit {0}
IsMark (number n) = Unit {0}
IsMark (mark k) = 3 < k

-- every token is
abbrev pub Known : List Tok → Type 0
Known [] = Unit {0}
Known (t ∷ ts) = IsMark t × Known ts
