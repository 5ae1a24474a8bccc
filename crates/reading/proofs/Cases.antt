-- Worked texts, token by token, as the table reads them: a difference to the left, a proc at the end of a test with a group behind it, a sign
-- that is a number's and one that is a difference. Assumes nothing.
use mathlib.Core.Path.{◌≡◌, refl}
use mathlib.Core.Option.{Option, none, some}
use mathlib.Core.List.{List, [], ◌∷◌, map}
use Rattle.grammar.specs.Tokens.{Tok, name, field_name, number, kind_of, value_of, sign, minus, k_proc, k_skip, k_while, k_true, lpar, rpar, equals, colon, becomes, dot}
use Rattle.grammar.specs.Grammar.{negated}
use Rattle.reading.specs.Items.{Item, put}
use Rattle.reading.specs.Table.{does, row_for, plain, signed, operands, commands, minuses, arguments, firsts, sides, feed, feeds, finish, reading}

unfoldable pub texts : List (List Tok)
texts =
    (name 0 ∷ becomes ∷ number 1 ∷ minus ∷ number 2 ∷ minus ∷ number 3 ∷ [])  -- X = 1 - 2 - 3
    ∷ (k_while ∷ name 0 ∷ equals ∷ k_proc ∷ name 1 ∷ colon ∷ k_skip ∷ lpar ∷ name 2 ∷ rpar ∷ lpar ∷ number 1 ∷ rpar ∷ [])  -- while X == proc Y: skip (P)(1)
    ∷ (k_while ∷ name 0 ∷ equals ∷ k_proc ∷ name 1 ∷ colon ∷ k_skip ∷ sign ∷ number 1 ∷ lpar ∷ number 2 ∷ rpar ∷ [])  -- while X == proc Y: skip -1(2)
    ∷ (k_while ∷ k_true ∷ sign ∷ number 1 ∷ lpar ∷ number 2 ∷ rpar ∷ [])  -- while true -1(2)
    ∷ (name 0 ∷ becomes ∷ number 0 ∷ sign ∷ number 2147483648 ∷ [])  -- X = 0 -2147483648
    ∷ (name 0 ∷ becomes ∷ sign ∷ number 2147483648 ∷ [])  -- X = -2147483648
    ∷ (name 0 ∷ dot ∷ k_proc ∷ name 1 ∷ colon ∷ k_skip ∷ becomes ∷ number 3 ∷ [])  -- X.proc Y: skip = 3
    ∷ (name 0 ∷ minus ∷ name 1 ∷ dot ∷ field_name 1 ∷ becomes ∷ number 1 ∷ [])  -- X - Y.f = 1
    ∷ []

unfoldable pub answers : List (Option (List Item))
answers =
    some (put 2 1 ∷ put 2 2 ∷ put 3 0 ∷ put 2 3 ∷ put 3 0 ∷ put 35 0 ∷ [])
    ∷ some (put 5 0 ∷ put 37 0 ∷ put 7 1 ∷ put 18 0 ∷ put 5 2 ∷ put 2 1 ∷ put 33 0 ∷ put 39 0 ∷ [])
    ∷ none
    ∷ some (put 16 0 ∷ put 2 4294967295 ∷ put 2 2 ∷ put 33 0 ∷ put 39 0 ∷ [])
    ∷ none
    ∷ some (put 2 2147483648 ∷ put 35 0 ∷ [])
    ∷ some (put 5 0 ∷ put 37 0 ∷ put 7 1 ∷ put 2 3 ∷ put 36 0 ∷ [])
    ∷ none
    ∷ []

pub texts-read : map reading texts ≡ answers
unfolding texts answers reading finish feeds feed does row_for plain signed operands commands minuses arguments firsts sides kind_of value_of negated
texts-read = refl
