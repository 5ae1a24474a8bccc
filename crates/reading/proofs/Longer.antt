-- The tokens of places that are one place longer: names that are added stand at the end, so the tokens before keep their numbers. Assumes nothing.
use Prim.Native.Nat.{ℕ, suc, ◌<◌, ◌≤◌}
use mathlib.Core.Path.{◌≡◌, refl, sym, ap, subst, ◌∙◌}
use mathlib.Core.Option.{Option, none, some}
use mathlib.Core.List.{List, [], ◌∷◌, ◌++◌, map}
use lib.ListN.{length}
use Rattle.rules.specs.Image.{most_names}
use Rattle.grammar.specs.Tokens.{Tok, name, field_name, number, mark}
use Rattle.grammar.specs.Places.{Piece, variable, field_word, digits, marked, bad_byte, Spot, spot}
use Rattle.grammar.specs.FieldList.{Entry, word_of, position_of}
use Rattle.grammar.specs.Names.{noted, names_from, names_in, by_name, by_field, token_of, tokens_of}
use Rattle.grammar.specs.Reads.{Valued}
use Rattle.grammar.proofs.Numbering.{no-some, names-then, names-start, all-numbered, tokens-stay, in-front}
use Rattle.reading.specs.Marks.{IsMark}

-- tokens of places one list after the other
pub tokens_append : (fields ns : List (List ℕ)) (ps qs : List Spot) {us vs : List Tok}
    → tokens_of fields ns ps ≡ some us → tokens_of fields ns qs ≡ some vs → tokens_of fields ns (ps ++ qs) ≡ some (us ++ vs)
unfolding tokens_of
tokens_append fields ns [] qs {us} {vs} e f = let i : us ≡ [] = cc in rw i f
tokens_append fields ns (spot l p ∷ ps) qs {us} {vs} e f =
    let i = in-front (token_of fields ns p) (tokens_of fields ns ps) e in
    rw (i.2, tokens_append fields ns ps qs i.3 f) (ap (λ ts. some (ts ++ vs)) (sym i.4))

-- the names of one place more
pub names_more : (before : List Spot) (l : ℕ) (p : Piece) → names_in (before ++ (spot l p ∷ [])) ≡ noted (names_in before) p
unfolding names_in names_from
names_more before l p = names-then before (spot l p ∷ []) []

pub valued-more : {fields : List Entry} {before : List Spot} {us : List Tok} (l : ℕ) (p : Piece) (t : Tok) → Valued fields before us
    → token_of (map word_of fields) (noted (names_in before) p) p ≡ some t → length (noted (names_in before) p) ≤ most_names
    → Valued fields (before ++ (spot l p ∷ [])) (us ++ (t ∷ []))
unfolding names_in tokens_of
valued-more {fields} {before} {us} l p t v e few =
    let words = map word_of fields in
    let here = before ++ (spot l p ∷ []) in
    let n = names-start before (spot l p ∷ []) in
    let m = names_more before l p in
    let old : tokens_of words (names_in here) before ≡ some us =
    ap (λ ns. tokens_of words ns before) n.1 ∙ (tokens-stay words (names_in before) n.0 before (all-numbered before []) ∙ v.tokens) in
    let new : tokens_of words (names_in here) (spot l p ∷ []) ≡ some (t ∷ []) = rw (m, e) refl in
    record { few-names = rw m few; tokens = tokens_append words (names_in here) before (spot l p ∷ []) old new }

-- the token of a piece is known, where a mark's kind is above 3
pub token-known : (fields ns : List (List ℕ)) (p : Piece) {t : Tok} → token_of fields ns p ≡ some t → ((k : ℕ) → p ≡ marked k → 3 < k) → IsMark t
unfolding token_of
token-known fields ns (variable w) e h = go (position_of w ns) e
  where
    go : (o : Option ℕ) {t : Tok} → by_name o ≡ some t → IsMark t
    go none i = absurd (no-some i)
    go (some x) {t} i = let j : name x ≡ t = cc in subst IsMark j tt
token-known fields ns (field_word w) e h = go (position_of w fields) e
  where
    go : (o : Option ℕ) {t : Tok} → by_field o ≡ some t → IsMark t
    go none i = absurd (no-some i)
    go (some x) {t} i = let j : field_name (suc x) ≡ t = cc in subst IsMark j tt
token-known fields ns (digits n) {t} e h = let j : number n ≡ t = cc in subst IsMark j tt
token-known fields ns (marked k) {t} e h = let j : mark k ≡ t = cc in subst IsMark j (h k refl)
token-known fields ns (bad_byte b) e h = absurd (no-some e)
