-- The spellings of the grammar's tables in letters: the twelve reserved words and no other, the symbols of one byte, and those of two. So a word that is spelled otherwise, left out or
-- added is seen here. Assumes nothing.
use mathlib.Core.Path.{◌≡◌, refl}
use mathlib.Core.List.{[], ◌∷◌}
use Rattle.grammar.specs.Tokens.{kind_of, k_null, k_proc, k_true, k_false, k_var, k_malloc, k_skip, k_while, k_if, k_else, k_atom, lpar, rpar, lbrace, rbrace, semi, bars, dot, becomes, equals, below, colon, nowhere, spelling, reserved, single, double}
use Rattle.grammar.proofs.Cases.{ascii}

pub reserved-words :
    reserved
    ≡ spelling (ascii "null") (kind_of k_null)
    ∷ spelling (ascii "proc") (kind_of k_proc)
    ∷ spelling (ascii "true") (kind_of k_true)
    ∷ spelling (ascii "false") (kind_of k_false)
    ∷ spelling (ascii "var") (kind_of k_var)
    ∷ spelling (ascii "malloc") (kind_of k_malloc)
    ∷ spelling (ascii "skip") (kind_of k_skip)
    ∷ spelling (ascii "while") (kind_of k_while)
    ∷ spelling (ascii "if") (kind_of k_if)
    ∷ spelling (ascii "else") (kind_of k_else)
    ∷ spelling (ascii "atom") (kind_of k_atom)
    ∷ spelling (ascii "val") (kind_of nowhere)
    ∷ []
unfolding reserved kind_of
reserved-words = refl

pub symbols-of-one :
    single
    ≡ spelling (ascii "(") (kind_of lpar)
    ∷ spelling (ascii ")") (kind_of rpar)
    ∷ spelling (ascii "{") (kind_of lbrace)
    ∷ spelling (ascii "}") (kind_of rbrace)
    ∷ spelling (ascii ";") (kind_of semi)
    ∷ spelling (ascii ".") (kind_of dot)
    ∷ spelling (ascii "=") (kind_of becomes)
    ∷ spelling (ascii "<") (kind_of below)
    ∷ spelling (ascii ":") (kind_of colon)
    ∷ spelling (ascii "|") (kind_of nowhere)
    ∷ []
unfolding single kind_of
symbols-of-one = refl

pub symbols-of-two : double ≡ spelling (ascii "||") (kind_of bars) ∷ spelling (ascii "==") (kind_of equals) ∷ []
unfolding double kind_of
symbols-of-two = refl
