-- The tokens of a tree, with the fewest parentheses that the grammar allows. Parentheses stand around a difference beside a dot or right of a minus,
-- around a selection right of a dot, around what ends in a bare proc left of a dot, minus, comparison or argument, and around what begins
-- with a sign where a command follows a comparison; nowhere else. That the grammar writes the tree so is shown in proofs/WritesBack, that it can't with
-- fewer parentheses or fewer tokens in proofs/Fewest. Node numbers don't count. Assumes nothing.
use Rattle.std.specs.Prelude.{ℕ, ◌+◌, ◌-◌, ◌^◌, Bool, true, false, cond, ◌||◌, List, [], ◌∷◌, ◌++◌, eqb, ltb}
use Rattle.rules.specs.Syntax.{Exp, Test, Cmd, no_exp, field, int, diff, null, ref, select, proc, no_test, is_true, is_false, equal, less, no_cmd, var, call, malloc, assign, assign_field, skip, seq, while, if, par, atom}
use Rattle.grammar.specs.Tokens.{Tok, name, field_name, number, kind_of, sign, minus, k_null, k_proc, k_true, k_false, k_var, k_malloc, k_skip, k_while, k_if, k_else, k_atom, lpar, rpar, lbrace, rbrace, semi, bars, dot, becomes, equals, below, colon}
use Rattle.grammar.specs.Grammar.{Top, operand, selection, difference, procedure, Ending, closed, bare, Ended, an_operand, no_operand}

-- ---- what an expression is at its top, and how it ends

unfoldable pub top_of : Exp → Top
top_of (no_exp n) = operand
top_of (field n f) = operand
top_of (int n b) = operand
top_of (diff n a b) = difference
top_of (null n) = operand
top_of (ref n x) = operand
top_of (select n a b) = selection
top_of (proc n y c) = procedure

unfoldable pub is_difference : Top → Bool
is_difference operand = false
is_difference selection = false
is_difference difference = true
is_difference procedure = false

unfoldable pub is_selection : Top → Bool
is_selection operand = false
is_selection selection = true
is_selection difference = false
is_selection procedure = false

unfoldable pub is_bare : Ending → Bool
is_bare closed = false
is_bare bare = true

-- right of a dot stands neither a difference nor a selection
unfoldable pub not_dotted : Top → Bool
not_dotted t = is_difference t || is_selection t

-- parentheses close what ends in a bare proc
unfoldable pub end_of : Exp → Ending
end_of (no_exp n) = closed
end_of (field n f) = closed
end_of (int n b) = closed
end_of (diff n a b) = cond (is_difference (top_of b)) closed (end_of b)
end_of (null n) = closed
end_of (ref n x) = closed
end_of (select n a b) = cond (not_dotted (top_of b)) closed (end_of b)
end_of (proc n y c) = bare

-- ---- parentheses

unfoldable pub grouped : Bool → List Tok → List Tok
grouped true us = lpar ∷ (us ++ (rpar ∷ []))
grouped false us = us

-- left of a minus, a comparison or an argument; and left of a dot
unfoldable pub opens_left : Exp → Bool
opens_left e = is_bare (end_of e)

unfoldable pub opens_dot : Exp → Bool
opens_dot e = is_difference (top_of e) || is_bare (end_of e)

-- ---- signs

unfoldable pub sign_first : List Tok → Bool
sign_first [] = false
sign_first (t ∷ ts) = eqb (kind_of t) 4

-- a sign that may not stand here
unfoldable pub signed : Ended → List Tok → Bool
signed an_operand ts = sign_first ts
signed no_operand ts = false

-- an integer of 32 bits; below 2^31 it is a number, from there on a sign and a number
unfoldable pub write_int : ℕ → List Tok
write_int b = cond (ltb b 2147483648) (number b ∷ []) (sign ∷ number (2 ^ 32 - b) ∷ [])

-- what a test ends with
unfoldable pub ended_by : Test → Ended
ended_by (no_test n) = no_operand
ended_by (is_true n) = no_operand
ended_by (is_false n) = no_operand
ended_by (equal n a b) = an_operand
ended_by (less n a b) = an_operand

-- ---- the tokens; nothing is written for what is no expression, test or command

unfoldable mutual
  pub write_exp : Exp → List Tok
  write_exp (no_exp n) = []
  write_exp (field n f) = field_name f ∷ []
  write_exp (int n b) = write_int b
  write_exp (diff n a b) = grouped (opens_left a) (write_exp a) ++ (minus ∷ grouped (is_difference (top_of b)) (write_exp b))
  write_exp (null n) = k_null ∷ []
  write_exp (ref n x) = name x ∷ []
  write_exp (select n a b) = grouped (opens_dot a) (write_exp a) ++ (dot ∷ grouped (not_dotted (top_of b)) (write_exp b))
  write_exp (proc n y c) = k_proc ∷ name y ∷ colon ∷ write_behind c no_operand

  pub write_test : Test → List Tok
  write_test (no_test n) = []
  write_test (is_true n) = k_true ∷ []
  write_test (is_false n) = k_false ∷ []
  write_test (equal n a b) = grouped (opens_left a) (write_exp a) ++ (equals ∷ write_exp b)
  write_test (less n a b) = grouped (opens_left a) (write_exp a) ++ (below ∷ write_exp b)

  -- a command, by what stands before it
  pub write_behind : Cmd → Ended → List Tok
  write_behind (no_cmd n) f = []
  write_behind (var n x c) f = k_var ∷ name x ∷ semi ∷ write_behind c no_operand
  write_behind (call n a b) f = grouped (opens_left a || signed f (write_exp a)) (write_exp a) ++ (lpar ∷ (write_exp b ++ (rpar ∷ [])))
  write_behind (malloc n x) f = k_malloc ∷ lpar ∷ name x ∷ rpar ∷ []
  write_behind (assign n x e) f = name x ∷ becomes ∷ write_exp e
  write_behind (assign_field n a b c) f =
      grouped (opens_dot a || signed f (write_exp a)) (write_exp a)
      ++ (dot ∷ (grouped (not_dotted (top_of b)) (write_exp b) ++ (becomes ∷ write_exp c)))
  write_behind (skip n) f = k_skip ∷ []
  write_behind (seq n c d) f = lbrace ∷ (write_behind c no_operand ++ (semi ∷ (write_behind d no_operand ++ (rbrace ∷ []))))
  write_behind (while n t c) f = k_while ∷ (write_test t ++ write_behind c (ended_by t))
  write_behind (if n t c d) f = k_if ∷ (write_test t ++ (write_behind c (ended_by t) ++ (k_else ∷ write_behind d no_operand)))
  write_behind (par n c d) f = lbrace ∷ (write_behind c no_operand ++ (bars ∷ (write_behind d no_operand ++ (rbrace ∷ []))))
  write_behind (atom n c) f = k_atom ∷ lpar ∷ (write_behind c no_operand ++ (rpar ∷ []))

unfoldable pub write_cmd : Cmd → List Tok
write_cmd c = write_behind c no_operand

-- ---- how many

-- tokens, each counted by its kind
unfoldable pub weigh : (ℕ → ℕ) → List Tok → ℕ
weigh weight [] = 0
weigh weight (t ∷ ts) = weight (kind_of t) + weigh weight ts

unfoldable pub opened : ℕ → ℕ
opened k = cond (eqb k 17) 1 0

-- the parentheses that are opened in a text
abbrev pub parentheses : List Tok → ℕ
parentheses ts = weigh opened ts
