-- Names by first appearance: a text that goes on keeps the numbers of its names and only adds names at the end. So the tokens of a text's beginning are the
-- beginning of its tokens, and what has tokens has them from place to place. Assumes nothing.
use Prim.Native.Nat.{ℕ, suc, ◌≤◌, ◌<◌}
use mathlib.Core.Path.{◌≡◌, refl, sym, ap, ap₂, ◌∙◌}
use mathlib.Core.Bool.{Bool, true, false, cond, false≢true}
use mathlib.Core.Option.{Option, none, some}
use mathlib.Core.List.{List, [], ◌∷◌, ◌++◌, map, append_assoc, append-nil}
use native.Mathlib.Omega.{arith}
use lib.ListN.{length, length-append}
use borrow.Author.Tests.{eq-eqb}
use Rattle.rules.specs.Image.{most_names}
use Rattle.grammar.specs.Tokens.{Tok, kind_of, same_word}
use Rattle.grammar.specs.Places.{Piece, variable, field_word, digits, marked, bad_byte, Spot, spot, present}
use Rattle.grammar.specs.FieldList.{Entry, word_of, next, position_of}
use Rattle.grammar.specs.Names.{noted, names_from, names_in, by_name, by_field, token_of, in_front, tokens_of, piece_kind}
use Rattle.grammar.specs.Reads.{Valued}

pub no-some : {A : Type 0} {a : A} → ◌≡◌ {A = Option A} none (some a) → ⊥
no-some e = let z : false ≡ true = cc in false≢true z

-- ---- where a word stands

pub same_word_lem : (w : List ℕ) → same_word w w ≡ true
unfolding same_word
same_word_lem [] = refl
same_word_lem (b ∷ w) = rw (eq-eqb b b refl) (same_word_lem w)

next-some : (o : Option ℕ) {x : ℕ} → next o ≡ some x → (y : ℕ) × (o ≡ some y) × (x ≡ suc y)
unfolding next present
next-some none e = absurd (no-some e)
next-some (some y) e = (y, refl, cc)

pub position-stays : (w : List ℕ) (ns ms : List (List ℕ)) {x : ℕ} → position_of w ns ≡ some x → position_of w (ns ++ ms) ≡ some x
unfolding position_of next present
position-stays w [] ms e = absurd (no-some e)
position-stays w (v ∷ ns) ms {x} e = go (same_word w v) e (λ y i. position-stays w ns ms i)
  where
    go : (t : Bool) → cond t (some 0) (next (position_of w ns)) ≡ some x
        → ((y : ℕ) → position_of w ns ≡ some y → position_of w (ns ++ ms) ≡ some y)
        → cond t (some 0) (next (position_of w (ns ++ ms))) ≡ some x
    go true e f = e
    go false e f =
        let i = next-some (position_of w ns) e in
        rw (f i.0 i.1) (ap some (sym i.2))

pub position-below : (w : List ℕ) (ns : List (List ℕ)) {x : ℕ} → position_of w ns ≡ some x → x < length ns
unfolding position_of next present
position-below w [] e = absurd (no-some e)
position-below w (v ∷ ns) {x} e = go (same_word w v) e (λ y i. position-below w ns i)
  where
    go : (t : Bool) → cond t (some 0) (next (position_of w ns)) ≡ some x → ((y : ℕ) → position_of w ns ≡ some y → y < length ns) → x < length (v ∷ ns)
    go true e f = let i : 0 ≡ x = cc in omega arith
    go false e f =
        let i = next-some (position_of w ns) e in
        omega (arith, f i.0 i.1, i.2)

-- a word that isn't there stands at the end, once it is put there
pub position-new : (w : List ℕ) (ns : List (List ℕ)) → position_of w ns ≡ none → position_of w (ns ++ (w ∷ [])) ≡ some (length ns)
unfolding position_of next present
position-new w [] e = rw (same_word_lem w) refl
position-new w (v ∷ ns) e = go (same_word w v) e (position-new w ns)
  where
    old : (o : Option ℕ) → next o ≡ none → o ≡ none
    old none i = refl
    old (some y) i = absurd (no-some (sym i))

    go : (t : Bool) → cond t (some 0) (next (position_of w ns)) ≡ none
        → (position_of w ns ≡ none → position_of w (ns ++ (w ∷ [])) ≡ some (length ns))
        → cond t (some 0) (next (position_of w (ns ++ (w ∷ [])))) ≡ some (suc (length ns))
    go true e f = absurd (no-some (sym e))
    go false e f = rw (f (old (position_of w ns) e)) refl

-- ---- names are only added, and at the end

noted-grows : (ns : List (List ℕ)) (p : Piece) → (ms : List (List ℕ)) × (noted ns p ≡ ns ++ ms)
unfolding noted
noted-grows ns (variable w) = go (present (position_of w ns))
  where
    go : (t : Bool) → (ms : List (List ℕ)) × (cond t ns (ns ++ (w ∷ [])) ≡ ns ++ ms)
    go true = ([], sym (append-nil ns))
    go false = (w ∷ [], refl)
noted-grows ns (field_word w) = ([], sym (append-nil ns))
noted-grows ns (digits n) = ([], sym (append-nil ns))
noted-grows ns (marked k) = ([], sym (append-nil ns))
noted-grows ns (bad_byte b) = ([], sym (append-nil ns))

pub names-grow : (ps : List Spot) (ns : List (List ℕ)) → (ms : List (List ℕ)) × (names_from ns ps ≡ ns ++ ms)
unfolding names_from
names-grow [] ns = ([], sym (append-nil ns))
names-grow (spot l p ∷ ps) ns =
    let i = noted-grows ns p in
    let j = names-grow ps (noted ns p) in
    (i.0 ++ j.0, j.1 ∙ (ap (λ m. m ++ j.0) i.1 ∙ append_assoc ns i.0 j.0))

pub names-then : (ps qs : List Spot) (ns : List (List ℕ)) → names_from ns (ps ++ qs) ≡ names_from (names_from ns ps) qs
unfolding names_from
names-then [] qs ns = refl
names-then (spot l p ∷ ps) qs ns = names-then ps qs (noted ns p)

-- the names of a beginning are the first of all the names
pub names-start : (ps qs : List Spot) → (ms : List (List ℕ)) × (names_in (ps ++ qs) ≡ names_in ps ++ ms)
unfolding names_in
names-start ps qs =
    let i = names-grow qs (names_from [] ps) in
    (i.0, names-then ps qs [] ∙ i.1)

-- ---- every name of a text has its number

-- the names of these places are in a list
abbrev pub Numbered : List (List ℕ) → Piece → Type 0
Numbered ns (variable w) = (x : ℕ) × (position_of w ns ≡ some x)
Numbered ns (field_word w) = Unit {0}
Numbered ns (digits n) = Unit {0}
Numbered ns (marked k) = Unit {0}
Numbered ns (bad_byte b) = Unit {0}

abbrev pub AllNumbered : List (List ℕ) → List Spot → Type 0
AllNumbered ns [] = Unit {0}
AllNumbered ns (spot l p ∷ ps) = Numbered ns p × AllNumbered ns ps

numbered-stays : (ns ms : List (List ℕ)) (p : Piece) → Numbered ns p → Numbered (ns ++ ms) p
numbered-stays ns ms (variable w) h = (h.0, position-stays w ns ms h.1)
numbered-stays ns ms (field_word w) h = tt
numbered-stays ns ms (digits n) h = tt
numbered-stays ns ms (marked k) h = tt
numbered-stays ns ms (bad_byte b) h = tt

noted-numbers : (ns : List (List ℕ)) (p : Piece) → Numbered (noted ns p) p
unfolding noted present
noted-numbers ns (variable w) = go (position_of w ns) refl
  where
    go : (o : Option ℕ) → position_of w ns ≡ o → (x : ℕ) × (position_of w (cond (present o) ns (ns ++ (w ∷ []))) ≡ some x)
    go none e = (length ns, position-new w ns e)
    go (some x) e = (x, e)
noted-numbers ns (field_word w) = tt
noted-numbers ns (digits n) = tt
noted-numbers ns (marked k) = tt
noted-numbers ns (bad_byte b) = tt

pub all-numbered : (ps : List Spot) (ns : List (List ℕ)) → AllNumbered (names_from ns ps) ps
unfolding names_from
all-numbered [] ns = tt
all-numbered (spot l p ∷ ps) ns =
    let i = names-grow ps (noted ns p) in
    (rw i.1 (numbered-stays (noted ns p) i.0 p (noted-numbers ns p)), all-numbered ps (noted ns p))

-- a name's number, which is below the number of names
pub variable-numbered : (before after : List Spot) (l : ℕ) (w : List ℕ)
    → let ns = names_in (before ++ (spot l (variable w) ∷ after)) in (x : ℕ) × (position_of w ns ≡ some x) × (x < length ns)
unfolding names_in
variable-numbered before after l w =
    let ns = names_in (before ++ (spot l (variable w) ∷ after)) in
    let i = there before (all-numbered (before ++ (spot l (variable w) ∷ after)) []) in
    (i.0, i.1, position-below w ns i.1)
  where
    there : (ps : List Spot) → AllNumbered (names_in (before ++ (spot l (variable w) ∷ after))) (ps ++ (spot l (variable w) ∷ after))
        → (x : ℕ) × (position_of w (names_in (before ++ (spot l (variable w) ∷ after))) ≡ some x)
    there [] h = h.0
    there (spot m p ∷ ps) h = there ps h.1

-- ---- tokens

token-stays : (fields ns ms : List (List ℕ)) (p : Piece) → Numbered ns p → token_of fields (ns ++ ms) p ≡ token_of fields ns p
unfolding token_of
token-stays fields ns ms (variable w) h = rw (position-stays w ns ms h.1, h.1) refl
token-stays fields ns ms (field_word w) h = refl
token-stays fields ns ms (digits n) h = refl
token-stays fields ns ms (marked k) h = refl
token-stays fields ns ms (bad_byte b) h = refl

pub tokens-stay : (fields ns ms : List (List ℕ)) (ps : List Spot) → AllNumbered ns ps → tokens_of fields (ns ++ ms) ps ≡ tokens_of fields ns ps
unfolding tokens_of
tokens-stay fields ns ms [] h = refl
tokens-stay fields ns ms (spot l p ∷ ps) h = rw (token-stays fields ns ms p h.0, tokens-stay fields ns ms ps h.1) refl

-- a list of tokens, taken apart
abbrev pub FrontTokens : Option Tok → Option (List Tok) → List Tok → Type 0
FrontTokens o os ts = (t : Tok) × (us : List Tok) × (o ≡ some t) × (os ≡ some us) × (ts ≡ t ∷ us)

pub in-front : (o : Option Tok) (os : Option (List Tok)) {ts : List Tok} → in_front o os ≡ some ts → FrontTokens o os ts
in-front none os e = absurd (no-some e)
in-front (some t) none e = absurd (no-some e)
in-front (some t) (some us) e = (t, us, refl, refl, cc)

in-front-of : {o : Option Tok} {os : Option (List Tok)} {t : Tok} {us : List Tok} → o ≡ some t → os ≡ some us → in_front o os ≡ some (t ∷ us)
in-front-of e f = rw (e, f) refl

pub tokens-split : (fields ns : List (List ℕ)) (ps qs : List Spot) {ts : List Tok} → tokens_of fields ns (ps ++ qs) ≡ some ts
    → (us : List Tok) × (vs : List Tok) × (ts ≡ us ++ vs) × (tokens_of fields ns ps ≡ some us) × (tokens_of fields ns qs ≡ some vs)
unfolding tokens_of
tokens-split fields ns [] qs {ts} e = ([], ts, refl, refl, e)
tokens-split fields ns (spot l p ∷ ps) qs e =
    let f = in-front (token_of fields ns p) (tokens_of fields ns (ps ++ qs)) e in
    let i = tokens-split fields ns ps qs f.3 in
    (f.0 ∷ i.0, i.1, f.4 ∙ ap (f.0 ∷◌) i.2, in-front-of f.2 i.3, i.4)

-- the tokens of a beginning
pub tokens-start : (fields : List (List ℕ)) (ps qs : List Spot) {ts : List Tok} → tokens_of fields (names_in (ps ++ qs)) (ps ++ qs) ≡ some ts
    → (us : List Tok) × (vs : List Tok) × (ts ≡ us ++ vs) × (tokens_of fields (names_in ps) ps ≡ some us) × (tokens_of fields (names_in (ps ++ qs)) qs ≡ some vs)
unfolding names_in
tokens-start fields ps qs e =
    let n = names-start ps qs in
    let i = tokens-split fields (names_in (ps ++ qs)) ps qs e in (
      i.0,
      i.1,
      i.2,
      sym (tokens-stay fields (names_in ps) n.0 ps (all-numbered ps [])) ∙ (ap (λ ns. tokens_of fields ns ps) (sym n.1) ∙ i.3),
      i.4,
    )

pub record Beginning (fields : List Entry) (ps qs : List Spot) (ts : List Tok) : Type 0 where
  pub first : List Tok
  pub rest : List Tok
  pub is : ts ≡ first ++ rest
  pub valued : Valued fields ps first
  pub others : tokens_of (map word_of fields) (names_in (ps ++ qs)) qs ≡ some rest

pub valued-start : (fields : List Entry) (ps qs : List Spot) {ts : List Tok} → Valued fields (ps ++ qs) ts → Beginning fields ps qs ts
valued-start fields ps qs h =
    let n = names-start ps qs in
    let i = tokens-start (map word_of fields) ps qs h.tokens in
    let few = h.few-names in
    let more : length (names_in ps) ≤ most_names = omega (arith, few, ap length n.1, length-append (names_in ps) n.0) in
    record { first = i.0; rest = i.1; is = i.2; valued = record { few-names = more; tokens = i.3 }; others = i.4 }

-- places have one list of tokens
pub valued_one : {fields : List Entry} {ps : List Spot} {us vs : List Tok} → Valued fields ps us → Valued fields ps vs → us ≡ vs
valued_one g h = let i = g.tokens in let j = h.tokens in cc (i, j)

-- ---- tokens have the kinds of their pieces

unfoldable pub piece_of : Spot → Piece
piece_of (spot l p) = p

pub token-kind : (fields ns : List (List ℕ)) (p : Piece) {t : Tok} → token_of fields ns p ≡ some t → piece_kind p ≡ some (kind_of t)
unfolding token_of piece_kind kind_of
token-kind fields ns (variable w) e = go (position_of w ns) e
  where
    go : (o : Option ℕ) {t : Tok} → by_name o ≡ some t → some 1 ≡ some (kind_of t)
    go none i = absurd (no-some i)
    go (some x) i = cc
token-kind fields ns (field_word w) e = go (position_of w fields) e
  where
    go : (o : Option ℕ) {t : Tok} → by_field o ≡ some t → some 2 ≡ some (kind_of t)
    go none i = absurd (no-some i)
    go (some x) i = cc
token-kind fields ns (digits n) e = cc
token-kind fields ns (marked k) e = cc
token-kind fields ns (bad_byte b) e = absurd (no-some e)

pub token-kinds : (fields ns : List (List ℕ)) (ps : List Spot) {ts : List Tok}
    → tokens_of fields ns ps ≡ some ts → map (λ s. piece_kind (piece_of s)) ps ≡ map (λ t. some (kind_of t)) ts
unfolding tokens_of piece_of
token-kinds fields ns [] {ts} e = let i : ts ≡ [] = cc in rw i refl
token-kinds fields ns (spot l p ∷ ps) e =
    let f = in-front (token_of fields ns p) (tokens_of fields ns ps) e in
    let i = token-kind fields ns p f.2 in
    let j = token-kinds fields ns ps f.3 in
    ap₂ ◌∷◌ i j ∙ sym (ap (map (λ t. some (kind_of t))) f.4)
