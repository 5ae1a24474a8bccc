-- The names of a spelled text are the words of the names that appear in its tokens, in that order; so its tokens come back with each name numbered by
-- first appearance. Assumes nothing.
use Prim.Native.Nat.{ℕ, suc, ◌-◌}
use mathlib.Core.Path.{◌≡◌, refl, sym, ap, ◌∙◌}
use mathlib.Core.Bool.{Bool, true, false, cond}
use mathlib.Core.Option.{some}
use mathlib.Core.List.{List, [], ◌∷◌, ◌++◌, map, map-append}
use native.Mathlib.Omega.{arith}
use lib.ListN.{length, get_or}
use Rattle.grammar.specs.Classes.{among}
use Rattle.grammar.specs.Tokens.{Tok, name, field_name, number, mark}
use Rattle.grammar.specs.FieldList.{Different}
use Rattle.grammar.specs.Names.{noted, names_from, names_in, token_of, tokens_of}
use Rattle.grammar.proofs.Numbering.{Numbered, AllNumbered, all-numbered}
use Rattle.writing.specs.Spell.{piece_for, places_for, Spells, Spellable}
use Rattle.writing.specs.Renumber.{with_name, appearing_from, appearing, place_in, rename_tok}
use Rattle.writing.proofs.Words.{one_place, found_at, AllBelow, present-as, place-as}
use Rattle.writing.proofs.NamesBelow.{below-with, below-appearing}

module _ (names fields : List (List ℕ)) (different : Different names) (different-fields : Different fields) where
  abbrev word : ℕ → List ℕ
  word x = get_or names x []

  -- ---- the names

  noted-as : (xs : List ℕ) (t : Tok) → AllBelow (length names) xs → Spells (length names) (length fields) t
      → noted (map word xs) (piece_for names fields t) ≡ map word (with_name xs t)
  unfolding noted piece_for with_name
  noted-as xs (name x) h l =
      rw (present-as (length names) word (λ y z g i e. one_place names y z different g i e) xs x h l) (go (among x xs))
    where
      go : (b : Bool) → cond b (map word xs) (map word xs ++ (word x ∷ [])) ≡ map word (cond b xs (xs ++ (x ∷ [])))
      go true = refl
      go false = sym (map-append word xs (x ∷ []))
  noted-as xs (field_name f) h l = refl
  noted-as xs (number n) h l = refl
  noted-as xs (mark k) h l = refl

  names-as : (l : ℕ) (ts : List Tok) (xs : List ℕ) → AllBelow (length names) xs → Spellable (length names) (length fields) ts
      → names_from (map word xs) (places_for names fields l ts) ≡ map word (appearing_from xs ts)
  unfolding names_from places_for appearing_from
  names-as l [] xs h s = refl
  names-as l (t ∷ ts) xs h s =
      ap (λ ns. names_from ns (places_for names fields l ts)) (noted-as xs t h s.0)
      ∙ names-as l ts (with_name xs t) (below-with (length names) (length fields) xs t h s.0) s.2

  pub names-appear : (l : ℕ) (ts : List Tok) → Spellable (length names) (length fields) ts → names_in (places_for names fields l ts) ≡ map word (appearing ts)
  unfolding names_in appearing
  names-appear l ts s = names-as l ts [] tt s

  -- ---- the tokens

  token-as : (xs : List ℕ) (t : Tok) → AllBelow (length names) xs → Spells (length names) (length fields) t → Numbered (map word xs) (piece_for names fields t)
      → token_of fields (map word xs) (piece_for names fields t) ≡ some (rename_tok (place_in xs) t)
  unfolding token_of piece_for rename_tok
  token-as xs (name x) h l n =
      let e = n.1 in
      let i = place-as (length names) word (λ y z g j k. one_place names y z different g j k) xs x n.0 h l e in
      rw (e, ← i) refl
  token-as xs (field_name f) h l n =
      let e = found_at fields (f - 1) different-fields (omega (arith, l.0, l.1)) in
      rw e (ap (λ k. some (field_name k)) (let i : suc (f - 1) ≡ f = omega (arith, l.0) in i))
  token-as xs (number m) h l n = refl
  token-as xs (mark k) h l n = refl

  tokens-as : (l : ℕ) (xs : List ℕ) (ts : List Tok) → AllBelow (length names) xs → Spellable (length names) (length fields) ts
      → AllNumbered (map word xs) (places_for names fields l ts)
      → tokens_of fields (map word xs) (places_for names fields l ts) ≡ some (map (rename_tok (place_in xs)) ts)
  unfolding tokens_of places_for
  tokens-as l xs [] h s n = refl
  tokens-as l xs (t ∷ ts) h s n = rw (token-as xs t h s.0 n.0, tokens-as l xs ts h s.2 n.1) refl

  pub tokens-appear : (l : ℕ) (ts : List Tok) → Spellable (length names) (length fields) ts
      → tokens_of fields (names_in (places_for names fields l ts)) (places_for names fields l ts) ≡ some (map (rename_tok (place_in (appearing ts))) ts)
  unfolding names_in appearing
  tokens-appear l ts s =
      let e = names-as l ts [] tt s in
      let n = all-numbered (places_for names fields l ts) [] in
      rw e (tokens-as l (appearing_from [] ts) ts (below-appearing (length names) (length fields) ts s) s (rw e at n))
