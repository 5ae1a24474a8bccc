-- What the grammar is written in: names, fields, numbers, reserved words and symbols, each with the number of its kind.
-- A minus is always a token of its own: a sign where a digit stands directly after it, else a minus. Whether a sign belongs to its
-- number or is a difference, the grammar says. Kind 0 is nothing: it stands for the end of a text. Assumes nothing.
use Rattle.std.specs.Prelude.{ℕ, Bool, true, false, cond, ◌&&◌, List, [], ◌∷◌, eqb}
use Rattle.std.proofs.Math.Option.{Option, none, some}

pub data Tok : Type 0 where
  name : ℕ → Tok  -- kind 1: a variable name, by its number
  field_name : ℕ → Tok  -- kind 2: a field name, by its index from 1
  number : ℕ → Tok  -- kind 3: by what its digits say
  mark : ℕ → Tok  -- a reserved word or a symbol, by its kind

unfoldable pub kind_of : Tok → ℕ
kind_of (name x) = 1
kind_of (field_name f) = 2
kind_of (number n) = 3
kind_of (mark k) = k

-- what a kind doesn't say
unfoldable pub value_of : Tok → ℕ
value_of (name x) = x
value_of (field_name f) = f
value_of (number n) = n
value_of (mark k) = 0

-- ---- the marks

abbrev pub sign : Tok  -- a minus with a digit directly after it
sign = mark 4

abbrev pub minus : Tok  -- any other minus
minus = mark 5

abbrev pub k_null : Tok
k_null = mark 6

abbrev pub k_proc : Tok
k_proc = mark 7

abbrev pub k_true : Tok
k_true = mark 8

abbrev pub k_false : Tok
k_false = mark 9

abbrev pub k_var : Tok
k_var = mark 10

abbrev pub k_malloc : Tok
k_malloc = mark 11

abbrev pub k_skip : Tok
k_skip = mark 12

abbrev pub k_while : Tok
k_while = mark 13

abbrev pub k_if : Tok
k_if = mark 14

abbrev pub k_else : Tok
k_else = mark 15

abbrev pub k_atom : Tok
k_atom = mark 16

abbrev pub lpar : Tok
lpar = mark 17

abbrev pub rpar : Tok
rpar = mark 18

abbrev pub lbrace : Tok
lbrace = mark 19

abbrev pub rbrace : Tok
rbrace = mark 20

abbrev pub semi : Tok
semi = mark 21

abbrev pub bars : Tok  -- ||
bars = mark 22

abbrev pub dot : Tok
dot = mark 23

abbrev pub becomes : Tok  -- =
becomes = mark 24

abbrev pub equals : Tok  -- ==
equals = mark 25

abbrev pub below : Tok  -- <
below = mark 26

abbrev pub colon : Tok
colon = mark 27

-- a word or a symbol that stands nowhere: val, a single |
abbrev pub nowhere : Tok
nowhere = mark 28

-- ---- how they are spelled

pub data Spelling : Type 0 where
  spelling : List ℕ → ℕ → Spelling  -- bytes, kind

-- "Reserved: null, proc, true, false, var, malloc, skip, while, if, else, atom, val."
unfoldable pub reserved : List Spelling
reserved =
    spelling (110 ∷ 117 ∷ 108 ∷ 108 ∷ []) 6  -- null
    ∷ spelling (112 ∷ 114 ∷ 111 ∷ 99 ∷ []) 7  -- proc
    ∷ spelling (116 ∷ 114 ∷ 117 ∷ 101 ∷ []) 8  -- true
    ∷ spelling (102 ∷ 97 ∷ 108 ∷ 115 ∷ 101 ∷ []) 9  -- false
    ∷ spelling (118 ∷ 97 ∷ 114 ∷ []) 10  -- var
    ∷ spelling (109 ∷ 97 ∷ 108 ∷ 108 ∷ 111 ∷ 99 ∷ []) 11  -- malloc
    ∷ spelling (115 ∷ 107 ∷ 105 ∷ 112 ∷ []) 12  -- skip
    ∷ spelling (119 ∷ 104 ∷ 105 ∷ 108 ∷ 101 ∷ []) 13  -- while
    ∷ spelling (105 ∷ 102 ∷ []) 14  -- if
    ∷ spelling (101 ∷ 108 ∷ 115 ∷ 101 ∷ []) 15  -- else
    ∷ spelling (97 ∷ 116 ∷ 111 ∷ 109 ∷ []) 16  -- atom
    ∷ spelling (118 ∷ 97 ∷ 108 ∷ []) 28  -- val
    ∷ []

-- symbols of one byte; the minus is not among them, since the byte after it decides what it is
unfoldable pub single : List Spelling
single =
    spelling (40 ∷ []) 17  -- (
    ∷ spelling (41 ∷ []) 18  -- )
    ∷ spelling (123 ∷ []) 19  -- {
    ∷ spelling (125 ∷ []) 20  -- }
    ∷ spelling (59 ∷ []) 21  -- ;
    ∷ spelling (46 ∷ []) 23  -- .
    ∷ spelling (61 ∷ []) 24  -- =
    ∷ spelling (60 ∷ []) 26  -- <
    ∷ spelling (58 ∷ []) 27  -- :
    ∷ spelling (124 ∷ []) 28  -- |
    ∷ []

-- and of two, with nothing between them
unfoldable pub double : List Spelling
double =
    spelling (124 ∷ 124 ∷ []) 22  -- ||
    ∷ spelling (61 ∷ 61 ∷ []) 25  -- ==
    ∷ []

unfoldable pub same_word : List ℕ → List ℕ → Bool
same_word [] [] = true
same_word [] (c ∷ v) = false
same_word (b ∷ w) [] = false
same_word (b ∷ w) (c ∷ v) = eqb b c && same_word w v

-- the kind of a spelling in a table
unfoldable pub spelled : List ℕ → List Spelling → Option ℕ
spelled w [] = none
spelled w (spelling v k ∷ rest) = cond (same_word w v) (some k) (spelled w rest)
