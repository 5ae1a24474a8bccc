-- The tokens of a text's places name fields that are in the list and names below their number. Assumes nothing.
use Prim.Native.Nat.{ℕ, suc, ◌<◌}
use mathlib.Core.Path.{◌≡◌, refl}
use mathlib.Core.Option.{Option, none, some}
use mathlib.Core.List.{List, [], ◌∷◌}
use native.Mathlib.Omega.{arith}
use lib.ListN.{length}
use Rattle.grammar.specs.Tokens.{Tok, name, field_name, number, mark}
use Rattle.grammar.specs.Places.{Piece, variable, field_word, digits, marked, bad_byte, Spot, spot}
use Rattle.grammar.specs.FieldList.{position_of}
use Rattle.grammar.specs.Names.{by_name, by_field, token_of, in_front, tokens_of}
use Rattle.grammar.proofs.Numbering.{position-below}
use Rattle.grammar.specs.Proper.{Field, Name}
use Rattle.grammar.proofs.WritesProper.{ProperToken, ProperTokens}

module _ (fields ns : List (List ℕ)) where
  abbrev Fit : Tok → Type 0
  Fit t = ProperToken (Field (length fields)) (Name (length ns)) t

  by_name_lem : (o : Option ℕ) (t : Tok) → ((k : ℕ) → o ≡ some k → k < length ns) → by_name o ≡ some t → Fit t
  by_name_lem none t h e = let z : ◌≡◌ {A = ℕ} 0 1 = cc in absurd (omega arith)
  by_name_lem (some k) t h e = let z : name k ≡ t = cc in rw (← z) (h k refl)

  by_field_lem : (o : Option ℕ) (t : Tok) → ((k : ℕ) → o ≡ some k → k < length fields) → by_field o ≡ some t → Fit t
  by_field_lem none t h e = let z : ◌≡◌ {A = ℕ} 0 1 = cc in absurd (omega arith)
  by_field_lem (some k) t h e = let z : field_name (suc k) ≡ t = cc in rw (← z) (omega arith, omega (arith, h k refl))

  token-proper : (p : Piece) (t : Tok) → token_of fields ns p ≡ some t → Fit t
  unfolding token_of
  token-proper (variable w) t e = by_name_lem (position_of w ns) t (λ k i. position-below w ns i) e
  token-proper (field_word w) t e = by_field_lem (position_of w fields) t (λ k i. position-below w fields i) e
  token-proper (digits n) t e = let z : number n ≡ t = cc in rw (← z) tt
  token-proper (marked k) t e = let z : mark k ≡ t = cc in rw (← z) tt
  token-proper (bad_byte b) t e = let z : ◌≡◌ {A = ℕ} 0 1 = cc in absurd (omega arith)

  pub tokens-proper : (ps : List Spot) (ts : List Tok) → tokens_of fields ns ps ≡ some ts → ProperTokens (Field (length fields)) (Name (length ns)) ts
  unfolding tokens_of
  tokens-proper [] ts e = let z : [] ≡ ts = cc in rw (← z) tt
  tokens-proper (spot l p ∷ ps) ts e = go (token_of fields ns p) (tokens_of fields ns ps) (token-proper p) (tokens-proper ps) e
    where
      go : (o : Option Tok) (r : Option (List Tok))
          → ((t : Tok) → o ≡ some t → Fit t)
          → ((us : List Tok) → r ≡ some us → ProperTokens (Field (length fields)) (Name (length ns)) us)
          → in_front o r ≡ some ts → ProperTokens (Field (length fields)) (Name (length ns)) ts
      go none r f g d = let z : ◌≡◌ {A = ℕ} 0 1 = cc in absurd (omega arith)
      go (some t) none f g d = let z : ◌≡◌ {A = ℕ} 0 1 = cc in absurd (omega arith)
      go (some t) (some us) f g d = let z : t ∷ us ≡ ts = cc in rw (← z) (f t refl, g us refl)
