-- The kinds of tokens by their names: the numbers of the grammar's module Tokens. Assumes nothing.
use Rattle.std.specs.Prelude.{ℕ}
use Rattle.letters.specs.declared.token.Token.{Token}
use Rattle.letters.specs.declared.token.Token.TheVariants as T

abbrev pub token_no : Token → ℕ
token_no T.Name = 1
token_no T.Field = 2
token_no T.Number = 3
token_no T.Sign = 4
token_no T.Minus = 5
token_no T.Null = 6
token_no T.Proc = 7
token_no T.True = 8
token_no T.False = 9
token_no T.Var = 10
token_no T.Malloc = 11
token_no T.Skip = 12
token_no T.While = 13
token_no T.If = 14
token_no T.Else = 15
token_no T.Atom = 16
token_no T.OpeningParenthesis = 17
token_no T.ClosingParenthesis = 18
token_no T.OpeningBrace = 19
token_no T.ClosingBrace = 20
token_no T.Semicolon = 21
token_no T.Bars = 22
token_no T.Dot = 23
token_no T.Becomes = 24
token_no T.Equals = 25
token_no T.Below = 26
token_no T.Colon = 27
token_no T.Nowhere = 28
