-- There is at most one answer: a text and a list are read as one image at the most, or refused with one number on one line, and never both. The heart:
-- a place is wrong or fine and not both, so that behind a wrong place no beginning is right. That a text has one reading is handed in. Assumes nothing.
use Prim.Native.Nat.{ℕ, ◌≤◌}
use mathlib.Core.Path.{◌≡◌, refl, sym, ap, ap₂, subst, subst₃, ◌∙◌}
use mathlib.Core.Bool.{cond}
use mathlib.Core.Option.{some}
use mathlib.Core.List.{List, [], ◌∷◌, ◌++◌, map, append_assoc, append-nil, map-append}
use native.Mathlib.Omega.{arith}
use lib.ListN.{length, length-append}
use lib.Seq.{append_snoc}
use Rattle.rules.specs.Syntax.{Cmd}
use Rattle.rules.specs.Image.{most_names}
use Rattle.rules.specs.Published.{image}
use Rattle.grammar.specs.Tokens.{Tok, number, kind_of}
use Rattle.grammar.specs.Places.{Piece, Spot, spot, present, Spelled}
use Rattle.grammar.specs.FieldList.{Entry, word_of, code_of, position_of}
use Rattle.grammar.specs.Grammar.{Writes, a_command, Text, Begins}
use Rattle.grammar.specs.Nodes.{size_cmd, table_cmd}
use Rattle.grammar.specs.Names.{noted, names_from, names_in, by_field, token_of, tokens_of, piece_kind}
use Rattle.grammar.specs.Reads.{Valued, ReadsText, Right, GoesOn, Wrong, bad-byte, bad-order, unknown-field, outside-32-bits, too-many-names, RefusedText, at-a-place, early-end, too-many-nodes, Reads, Refuses, short-output, short-work, bad-list, bad-text}
use Rattle.grammar.proofs.Spelling.{spelled-one}
use Rattle.grammar.proofs.Listing.{listed-one}
use Rattle.grammar.proofs.Numbering.{no-some, names-then, in-front, valued-start, valued_one, token-kind}
use Rattle.grammar.proofs.Splits.{Apart, earlier, same, later, apart}

-- ---- a place with which a beginning is right

pub begins-start : (us vs : List Tok) → Begins (us ++ vs) → Begins us
begins-start us vs b = record { rest = vs ++ b.rest; text = subst Text (append_assoc us vs b.rest) b.text }

pub text-begins : {ts : List Tok} → Text ts → Begins ts
text-begins {ts} t = record { rest = []; text = subst Text (sym (append-nil ts)) t }

-- the token at a place, which a text of the grammar can go on with
pub record Fine (fields : List Entry) (before : List Spot) (us : List Tok) (p : Piece) : Type 0 where
  pub few : length (noted (names_in before) p) ≤ most_names
  pub token : Tok
  pub is : token_of (map word_of fields) (noted (names_in before) p) p ≡ some token
  pub begins : Begins (us ++ (token ∷ []))

-- a longer beginning that is right makes the place fine
fine : (fields : List Entry) (before : List Spot) (l : ℕ) (p : Piece) (more : List Spot) {us ts : List Tok}
    → Valued fields before us → Right fields (before ++ (spot l p ∷ more)) ts → Fine fields before us p
unfolding names_in names_from tokens_of
fine fields before l p more {us} {ts} v r =
    let here = before ++ (spot l p ∷ []) in
    let names : names_in here ≡ noted (names_in before) p = names-then before (spot l p ∷ []) [] in
    let right = subst (λ z. Right fields z ts) (sym (append_snoc before (spot l p) more)) r in
    let b = valued-start fields here more right.valued in
    let c = valued-start fields before (spot l p ∷ []) b.valued in
    let f = in-front (token_of (map word_of fields) (names_in here) p) (some []) c.others in
    let e = valued_one c.valued v in
    let i : b.first ≡ us ++ (f.0 ∷ []) = cc (c.is, e, f.3, f.4) in
    record {
      few = subst (λ z. length z ≤ most_names) names b.valued.few-names;
      token = f.0;
      is = subst (λ z. token_of (map word_of fields) z p ≡ some f.0) names f.2;
      begins = subst Begins i (begins-start b.first b.rest (subst Begins b.is right.begins));
    }

wrong-or-fine : {fields : List Entry} {before : List Spot} {us : List Tok} {p : Piece} {k : ℕ} → Wrong fields before us p k → Fine fields before us p → ⊥
unfolding token_of noted piece_kind present
wrong-or-fine bad-byte f = no-some f.is
wrong-or-fine {fields} {before} {us} (bad-order {p} {k} h no_way) f =
    let t = f.token in
    let i = token-kind (map word_of fields) (noted (names_in before) p) p f.is in
    let e : kind_of t ≡ k = cc (h, i) in
    no_way
    (record {
      tokens = us ++ (t ∷ []);
      alike = map-append kind_of us (t ∷ []) ∙ ap (λ z. map kind_of us ++ (z ∷ [])) e;
      begins = f.begins;
    })
wrong-or-fine (unknown-field {w} g h) f =
    let i = f.is in
    no-some (sym (ap by_field h) ∙ i)
wrong-or-fine {us} (outside-32-bits {n} g h) f =
    let i = f.is in
    let e : f.token ≡ number n = cc (i) in
    h (subst (λ t. Begins (us ++ (t ∷ []))) e f.begins)
wrong-or-fine {before} (too-many-names {w} g h full) f =
    let ns = names_in before in
    let i : length (cond (present (position_of w ns)) ns (ns ++ (w ∷ []))) ≤ most_names = f.few in
    let j : length (ns ++ (w ∷ [])) ≤ most_names = rw h at i in
    omega (arith, j, full, length-append ns (w ∷ []))

-- what can't go on with a kind is wrong in nothing else
goes_on : (us : List Tok) {i k : ℕ} → some i ≡ some k → (GoesOn us k → ⊥) → GoesOn us i → ⊥
goes_on us {i} {k} h g x = let e : i ≡ k = cc in g (subst (GoesOn us) e x)

-- what is wrong at a place has one number
wrong-one : {fields : List Entry} {before : List Spot} {us : List Tok} {p : Piece} {k j : ℕ}
    → Wrong fields before us p k → Wrong fields before us p j → k ≡ j
unfolding piece_kind
wrong-one bad-byte bad-byte = refl
wrong-one bad-byte (bad-order h g) = absurd (no-some h)
wrong-one (bad-order h g) bad-byte = absurd (no-some h)
wrong-one (bad-order h g) (bad-order i j) = refl
wrong-one {us} (bad-order h g) (unknown-field i j) = absurd (goes_on us h g i)
wrong-one {us} (bad-order h g) (outside-32-bits i j) = absurd (goes_on us h g i)
wrong-one {us} (bad-order h g) (too-many-names i j m) = absurd (goes_on us h g i)
wrong-one {us} (unknown-field i j) (bad-order h g) = absurd (goes_on us h g i)
wrong-one {us} (outside-32-bits i j) (bad-order h g) = absurd (goes_on us h g i)
wrong-one {us} (too-many-names i j m) (bad-order h g) = absurd (goes_on us h g i)
wrong-one (unknown-field i j) (unknown-field h g) = refl
wrong-one (outside-32-bits i j) (outside-32-bits h g) = refl
wrong-one (too-many-names i j m) (too-many-names h g n) = refl

-- ---- one answer for a text, by a list

-- where all places are right nothing is wrong
pub right-or-wrong : {fields : List Entry} (before : List Spot) (l : ℕ) {k : ℕ} {p : Piece} (after : List Spot) {us ts : List Tok}
    → Right fields before us → Wrong fields before us p k → Right fields (before ++ (spot l p ∷ after)) ts → ⊥
right-or-wrong {fields} before l {p = p} after r w q = wrong-or-fine w (fine fields before l p after r.valued q)

places-one : {fields : List Entry} (before before' after after' : List Spot) {us us' : List Tok} {l l' k k' : ℕ} {p p' : Piece}
    → before ++ (spot l p ∷ after) ≡ before' ++ (spot l' p' ∷ after') → Right fields before us → Wrong fields before us p k → Right fields before' us'
    → Wrong fields before' us' p' k' → (k ≡ k') × (l ≡ l')
places-one {fields} before before' after after' {us} {us'} {l} {l'} {k} {k'} {p} {p'} e r w r' w' =
    go (apart before before' (spot l p) (spot l' p') after after' e)
  where
    go : Apart before (spot l p) before' (spot l' p') → (k ≡ k') × (l ≡ l')
    go (earlier zs f) = absurd (right-or-wrong before l zs r w (subst (λ z. Right fields z us') f r'))
    go (later zs f) = absurd (right-or-wrong before' l' zs r' w' (subst (λ z. Right fields z us) f r))
    go (same f g) =
        let q = subst (λ z. Right fields z us') (sym f) r' in
        let u = valued_one q.valued r.valued in
        let h : p' ≡ p = cc in
        let m : l ≡ l' = cc in
        (wrong-one w (subst₃ (λ z ts o. Wrong fields z ts o k') (sym f) u h w'), m)

-- a text that is right to its end isn't wrong at a place
right-text : {fields : List Entry} {text : List ℕ} {ps before : List Spot} {ts us : List Tok} {k : ℕ} {p : Piece} (l : ℕ) (after : List Spot)
    → Spelled text 1 ps → Right fields ps ts → Spelled text 1 (before ++ (spot l p ∷ after)) → Right fields before us → Wrong fields before us p k → ⊥
right-text {fields} {before = before} {ts = ts} l after d r e q w =
    right-or-wrong before l after q w (subst (λ z. Right fields z ts) (spelled-one d e) r)

whole : {fields : List Entry} {ps : List Spot} {us : List Tok} → Valued fields ps us → Text us → Right fields ps us
whole v t = record { valued = v; begins = text-begins t }

-- the tokens of a text, whichever way it was taken apart
tokens-one : {fields : List Entry} {text : List ℕ} {ps qs : List Spot} {us vs : List Tok}
    → Spelled text 1 ps → Spelled text 1 qs → Valued fields ps us → Valued fields qs vs → us ≡ vs
tokens-one {fields} {us = us} d e v w = valued_one (subst (λ z. Valued fields z us) (spelled-one d e) v) w

refused-text-one : {fields : List Entry} {text : List ℕ} {k l j m : ℕ} → RefusedText fields text k l → RefusedText fields text j m → (k ≡ j) × (l ≡ m)
refused-text-one (at-a-place {before} after d r w) (at-a-place {before = before'} after' d' r' w') =
    places-one before before' after after' (spelled-one d d') r w r' w'
refused-text-one (at-a-place after {l = l} d r w) (early-end e q n) = absurd (right-text l after e q d r w)
refused-text-one (at-a-place after {l = l} d r w) (too-many-nodes e v t n) = absurd (right-text l after e (whole v t) d r w)
refused-text-one (early-end e q n) (at-a-place after {l = l} d r w) = absurd (right-text l after e q d r w)
refused-text-one (early-end e q n) (early-end e' q' n') = (refl, refl)
refused-text-one (early-end e q n) (too-many-nodes e' v t n') = absurd (n (subst Text (tokens-one e' e v q.valued) t))
refused-text-one (too-many-nodes e v t n) (at-a-place after {l = l} d r w) = absurd (right-text l after e (whole v t) d r w)
refused-text-one (too-many-nodes e v t n) (early-end e' q n') = absurd (n' (subst Text (tokens-one e e' v q.valued) t))
refused-text-one (too-many-nodes e v t n) (too-many-nodes e' v' t' n') = (refl, refl)

-- ---- one answer

-- tokens are a way to write one command
abbrev pub OneReading : Type 0
OneReading = (c d : Cmd) (ts : List Tok) → Writes (a_command c) ts → Writes (a_command d) ts → c ≡ d

module _ (one-reading : OneReading) where
  reads-text-one : {fields : List Entry} {text img img' : List ℕ} → ReadsText fields text img → ReadsText fields text img' → img ≡ img'
  reads-text-one {fields} a b =
      let ps = spelled-one a.spelled b.spelled in
      let ts = tokens-one a.spelled b.spelled a.valued b.valued in
      let c = one-reading _ _ _ (subst (Writes (a_command a.tree)) ts a.writes) b.writes in
      a.is ∙ (ap₂ (λ c ps. image (map code_of fields) (table_cmd 0 c) (length (names_in ps))) c ps ∙ sym b.is)

  reads-or-refused-text : {fields : List Entry} {text img : List ℕ} {k l : ℕ} → ReadsText fields text img → RefusedText fields text k l → ⊥
  reads-or-refused-text a (at-a-place after {l = l} d r w) =
      right-text l after a.spelled (whole a.valued (record { command = a.tree; writes = a.writes })) d r w
  reads-or-refused-text a (early-end e q n) =
      n (subst Text (tokens-one a.spelled e a.valued q.valued) (record { command = a.tree; writes = a.writes }))
  reads-or-refused-text a (too-many-nodes e v t n) =
      let ts = tokens-one a.spelled e a.valued v in
      let c = one-reading _ _ _ (subst (Writes (a_command a.tree)) ts a.writes) t.writes in
      let few = a.few-nodes in
      omega (arith, few, n, ap size_cmd c)

  -- "exactly one": an image at the most
  pub reads-one : {out work : ℕ} {list text img img' : List ℕ} → Reads out work list text img → Reads out work list text img' → img ≡ img'
  reads-one {text = text} {img = img} a b =
      reads-text-one (subst (λ f. ReadsText f text img) (listed-one a.listed b.listed) a.read) b.read

  -- and never an image and a refusal
  pub reads-or-refused : {out work : ℕ} {list text img : List ℕ} {k l : ℕ} → Reads out work list text img → Refuses out work list text k l → ⊥
  reads-or-refused a (short-output h) = let i = a.lent in omega (arith, i.0)
  reads-or-refused a (short-work g h) = let i = a.lent in omega (arith, i.1)
  reads-or-refused a (bad-list g h) = h a.fields a.listed
  reads-or-refused {text = text} {img = img} a (bad-text g h r) =
      reads-or-refused-text (subst (λ f. ReadsText f text img) (listed-one a.listed h) a.read) r

-- one number on one line
pub refused-one : {out work : ℕ} {list text : List ℕ} {k l j m : ℕ} → Refuses out work list text k l → Refuses out work list text j m → (k ≡ j) × (l ≡ m)
refused-one (short-output h) (short-output h') = (refl, refl)
refused-one (short-output h) (short-work g' h') = absurd (omega arith)
refused-one (short-output h) (bad-list g' h') = absurd (omega (arith, g'.0))
refused-one (short-output h) (bad-text g' h' r') = absurd (omega (arith, g'.0))
refused-one (short-work g h) (short-output h') = absurd (omega arith)
refused-one (short-work g h) (short-work g' h') = (refl, refl)
refused-one (short-work g h) (bad-list g' h') = absurd (omega (arith, g'.1))
refused-one (short-work g h) (bad-text g' h' r') = absurd (omega (arith, g'.1))
refused-one (bad-list g h) (short-output h') = absurd (omega (arith, g.0))
refused-one (bad-list g h) (short-work g' h') = absurd (omega (arith, g.1))
refused-one (bad-list g h) (bad-list g' h') = (refl, refl)
refused-one (bad-list g h) (bad-text {fields} g' h' r') = absurd (h fields h')
refused-one (bad-text g h r) (short-output h') = absurd (omega (arith, g.0))
refused-one (bad-text g h r) (short-work g' h') = absurd (omega (arith, g.1))
refused-one (bad-text {fields} g h r) (bad-list g' h') = absurd (h' fields h)
refused-one {text = text} (bad-text {k = k} {l = l} g h r) (bad-text g' h' r') =
    refused-text-one (subst (λ f. RefusedText f text k l) (listed-one h h') r) r'
