-- What is said of the next place determines it: two answers that meet the contract of `next` are one; and a token's number determines the token, so the
-- contracts of `kind_of_word` and `kind_of_symbol` do. Assumes nothing.
use Prim.Native.Nat.{ℕ}
use mathlib.Core.Path.{◌≡◌, refl, sym, ap, ◌∙◌}
use mathlib.Core.List.{List, [], ◌∷◌}
use lib.ListN.{get_or}
use native.Mathlib.Omega.{arith}
use native.Mathlib.Decide.{ℕ_discrete}
use Rattle.laws.specs.Backs.{one-back}
use Rattle.letters.specs.declared.places.Place.{Place}
use Rattle.letters.specs.declared.token.Token.{Token}
use Rattle.letters.specs.declared.token.Token.TheVariants as T
use Rattle.letters.specs.Token.{token_no}
use Rattle.letters.specs.Pieces.{piece_end}
use Rattle.letters.specs.Says.{NextSays}

same : (r q : Place) → r.kind ≡ q.kind → r.from ≡ q.from → r.to ≡ q.to → r.line ≡ q.line → r ≡ q
same r q a b c d = λ i. record { kind = a i; from = b i; to = c i; line = d i }

module _ (text : List ℕ) (at line : ℕ) (r q : Place) (x : NextSays text at line r) (y : NextSays text at line q) where
  from_one : r.from ≡ q.from
  from_one = x.past-blanks.0 ∙ sym y.past-blanks.0

  line-one : r.line ≡ q.line
  line-one = x.past-blanks.1 ∙ sym y.past-blanks.1

  pub next_one : r ≡ q
  next_one = go (ℕ_discrete r.kind 0) (ℕ_discrete q.kind 0)
    where
      go : Dec (r.kind ≡ 0) → Dec (q.kind ≡ 0) → r ≡ q
      go (yes d) (yes e) = same r q (d ∙ sym e) from_one ((x.at-end d).is-to ∙ sym (y.at-end e).is-to) line-one
      go (yes d) (no e) =
          let b = y.found e in
          absurd (omega (arith, from_one, (x.at-end d).is-from, b.not-empty, b.within))
      go (no d) (yes e) =
          let b = x.found d in
          absurd (omega (arith, from_one, (y.at-end e).is-from, b.not-empty, b.within))
      go (no d) (no e) =
          let b = x.found d in
          let c = y.found e in
          let to_one : r.to ≡ q.to = b.is-to ∙ ap (piece_end text) from_one ∙ sym c.is-to in
          let kind-one : r.kind ≡ q.kind = b.is-kind ∙ rw (from_one, to_one) (sym c.is-kind) in
          same r q kind-one from_one to_one line-one

-- ---- a token, by its number

-- no token has the number 0
tokens : List Token
tokens =
    T.Nowhere
    ∷ T.Name
    ∷ T.Field
    ∷ T.Number
    ∷ T.Sign
    ∷ T.Minus
    ∷ T.Null
    ∷ T.Proc
    ∷ T.True
    ∷ T.False
    ∷ T.Var
    ∷ T.Malloc
    ∷ T.Skip
    ∷ T.While
    ∷ T.If
    ∷ T.Else
    ∷ T.Atom
    ∷ T.OpeningParenthesis
    ∷ T.ClosingParenthesis
    ∷ T.OpeningBrace
    ∷ T.ClosingBrace
    ∷ T.Semicolon
    ∷ T.Bars
    ∷ T.Dot
    ∷ T.Becomes
    ∷ T.Equals
    ∷ T.Below
    ∷ T.Colon
    ∷ T.Nowhere
    ∷ []

token_in : ℕ → Token
token_in k = get_or tokens k T.Nowhere

token-back : (t : Token) → token_in (token_no t) ≡ t
unfolding token_in tokens
token-back T.Name = refl
token-back T.Field = refl
token-back T.Number = refl
token-back T.Sign = refl
token-back T.Minus = refl
token-back T.Null = refl
token-back T.Proc = refl
token-back T.True = refl
token-back T.False = refl
token-back T.Var = refl
token-back T.Malloc = refl
token-back T.Skip = refl
token-back T.While = refl
token-back T.If = refl
token-back T.Else = refl
token-back T.Atom = refl
token-back T.OpeningParenthesis = refl
token-back T.ClosingParenthesis = refl
token-back T.OpeningBrace = refl
token-back T.ClosingBrace = refl
token-back T.Semicolon = refl
token-back T.Bars = refl
token-back T.Dot = refl
token-back T.Becomes = refl
token-back T.Equals = refl
token-back T.Below = refl
token-back T.Colon = refl
token-back T.Nowhere = refl

pub token-one : (t u : Token) → token_no t ≡ token_no u → t ≡ u
token-one = one-back token_no token_in token-back
