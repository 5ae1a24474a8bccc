-- Every text has an answer by a list that is right: an image, or a refusal with its number and line. So the sentences of the refusals leave nothing out: a text that the grammar
-- doesn't write within the limits is wrong at a place by one of them, or ends too early, or has too many nodes. With proofs/Answered there is just one. Assumes nothing.
use Prim.Native.Nat.{ℕ, suc, ◌<◌, ◌≤◌}
use mathlib.Core.Path.{◌≡◌, refl, sym, ap, subst, ◌∙◌}
use mathlib.Core.Bool.{Bool, true, false, cond, ◌&&◌}
use mathlib.Core.Option.{Option, none, some}
use mathlib.Core.List.{List, [], ◌∷◌, ◌++◌, map, append-nil}
use native.Mathlib.Omega.{arith}
use lib.ListN.{length, length-append}
use lib.Seq.{append_snoc}
use lib.Dec.{eqb, ltb}
use borrow.Author.Tests.{ltb-true, ltb-false}
use Rattle.laws.specs.Bools.{and_both}
use Rattle.rules.specs.Image.{most_nodes, most_names}
use Rattle.grammar.specs.Classes.{upper, class_of}
use Rattle.grammar.specs.Tokens.{Tok, name, field_name, number, mark, kind_of, value_of, Spelling, spelling, reserved, single, double, same_word, spelled}
use Rattle.grammar.specs.Places.{Piece, variable, field_word, digits, marked, bad_byte, Spot, spot, lower_or, word_piece, present, Spelled, ends, a-blank, a_word, a-number, a-symbol, a_pair, a-sign, a-minus, a-bad-byte}
use Rattle.grammar.specs.FieldList.{Entry, word_of, position_of}
use Rattle.rules.specs.Syntax.{Cmd}
use Rattle.grammar.specs.Grammar.{Writes, a_command}
use Rattle.grammar.specs.Nodes.{size_cmd}
use Rattle.grammar.specs.Names.{noted, names_from, names_in, token_of, tokens_of, piece_kind}
use Rattle.grammar.specs.Reads.{Valued, Right, Wrong, bad-byte, bad-order, unknown-field, outside-32-bits, too-many-names, ReadsText, RefusedText, at-a-place, early-end, too-many-nodes}
use Rattle.grammar.proofs.Numbering.{no-some, position-new}
use Rattle.grammar.proofs.Spelling.{spelled-some}
use Rattle.reading.specs.Items.{Item}
use Rattle.reading.specs.Marks.{IsMark, Known}
use Rattle.reading.specs.Table.{Due, Fed, went, stuck, feed, feeds, finish, finished, start, reading}
use Rattle.reading.proofs.Sound.{reads_only}
use Rattle.reading.proofs.SameTexts.{rules-write}
use Rattle.reading.proofs.ItemSizes.{items-long}
use Rattle.reading.proofs.Alike.{refused-whatever}
use Rattle.reading.proofs.FirstPlace.{fed-next, fed-one, known-append, no_text, refused-right, refused-alike, read_right, read_alike}
use Rattle.reading.proofs.Longer.{valued-more}

-- ---- the kinds of marks in a text are above 3

kinds_above : List Spelling → Bool
kinds_above [] = true
kinds_above (spelling v k ∷ t) = ltb 3 k && kinds_above t

kind-above : (w : List ℕ) (t : List Spelling) {k : ℕ} → kinds_above t ≡ true → spelled w t ≡ some k → 3 < k
unfolding kinds_above spelled
kind-above w [] h e = absurd (no-some e)
kind-above w (spelling v j ∷ t) {k} h e =
    let both = and_both (ltb 3 j) (kinds_above t) h in
    go (same_word w v) (ltb-true 3 j both.0) (kind-above w t both.1) e
  where
    go : (b : Bool) → 3 < j → (spelled w t ≡ some k → 3 < k) → cond b (some j) (spelled w t) ≡ some k → 3 < k
    go true now later f = let i : j ≡ k = cc in omega arith
    go false now later f = later f

abbrev Above : Piece → Type 0
Above (variable w) = Unit {0}
Above (field_word w) = Unit {0}
Above (digits n) = Unit {0}
Above (marked k) = 3 < k
Above (bad_byte b) = Unit {0}

abbrev AllAbove : List Spot → Type 0
AllAbove [] = Unit {0}
AllAbove (spot l p ∷ ps) = Above p × AllAbove ps

word-above : (b : ℕ) (w : List ℕ) → Above (word_piece b w)
unfolding word_piece lower_or reserved kinds_above
word-above b w = first (eqb (class_of b) upper)
  where
    second : (o : Option ℕ) → spelled (b ∷ w) reserved ≡ o → Above (lower_or o (b ∷ w))
    second none e = tt
    second (some k) e = kind-above (b ∷ w) reserved refl e

    first : (u : Bool) → Above (cond u (variable (b ∷ w)) (lower_or (spelled (b ∷ w) reserved) (b ∷ w)))
    first true = tt
    first false = second (spelled (b ∷ w) reserved) refl

marks-above : {s : List ℕ} {l : ℕ} {ps : List Spot} → Spelled s l ps → AllAbove ps
unfolding single double kinds_above
marks-above ends = tt
marks-above (a-blank e d) = marks-above d
marks-above (a_word {b} w hb hw hs d) = (word-above b w, marks-above d)
marks-above (a-number w hb hw hs d) = (tt, marks-above d)
marks-above (a-symbol {b} e hs d) = (kind-above (b ∷ []) single refl e, marks-above d)
marks-above (a_pair {b} {c} e d) = (kind-above (b ∷ c ∷ []) double refl e, marks-above d)
marks-above (a-sign h d) = (omega arith, marks-above d)
marks-above (a-minus h d) = (omega arith, marks-above d)
marks-above (a-bad-byte e d) = (tt, marks-above d)

-- ---- a place

-- the places so far are read
record Sofar (fields : List Entry) (before : List Spot) : Type 0 where
  tokens : List Tok
  due : List Due
  items : List Item
  valued : Valued fields before tokens
  known : Known tokens
  fed : feeds tokens start [] ≡ went due items

data Step (fields : List Entry) (before : List Spot) (us : List Tok) (l : ℕ) (p : Piece) : Type 0 where
  wrong : {k : ℕ} → Wrong fields before us p k → Step fields before us l p
  goes : Sofar fields (before ++ (spot l p ∷ [])) → Step fields before us l p

module _ {fields : List Entry} {before : List Spot} (g : Sofar fields before) (l : ℕ) where
  right : Right fields before g.tokens
  right = record { valued = g.valued; begins = read_right g.tokens g.known g.fed }

  -- the token of the place is taken
  taken : (p : Piece) (t : Tok) {es : List Due} {js : List Item} → token_of (map word_of fields) (noted (names_in before) p) p ≡ some t → IsMark t
      → length (noted (names_in before) p) ≤ most_names → feed g.due (kind_of t) (value_of t) g.items ≡ went es js → Step fields before g.tokens l p
  taken p t {es} {js} e m few f =
      goes
      (record {
        tokens = g.tokens ++ (t ∷ []);
        due = es;
        items = js;
        valued = valued-more l p t g.valued e few;
        known = known-append g.tokens (t ∷ []) g.known (m, tt);
        fed = fed-next g.tokens (t ∷ []) g.fed ∙ fed-one t g.due g.items (went es js) f;
      })

  -- no token of its kind is
  not-here : (p : Piece) (k : ℕ) → piece_kind p ≡ some k → feed g.due k 0 g.items ≡ stuck → Step fields before g.tokens l p
  not-here p k e f = wrong (bad-order e (refused-alike g.tokens k g.fed f))

  -- one that is no number, of any value
  not-valued : (p : Piece) (k v : ℕ) → piece_kind p ≡ some k → (k ≡ 3 → ⊥) → feed g.due k v g.items ≡ stuck → Step fields before g.tokens l p
  not-valued p k v e n f = not-here p k e (refused-whatever g.due k 0 v g.items g.items (λ i. absurd (n i)) f)

  mark-step : (k : ℕ) → 3 < k → Step fields before g.tokens l (marked k)
  unfolding token_of noted piece_kind kind_of value_of
  mark-step k h = go (feed g.due k 0 g.items) refl
    where
      go : (f : Fed) → feed g.due k 0 g.items ≡ f → Step fields before g.tokens l (marked k)
      go (went es js) e = taken (marked k) (mark k) refl h g.valued.few-names e
      go stuck e = not-here (marked k) k refl e

  number_step : (n : ℕ) → Step fields before g.tokens l (digits n)
  unfolding token_of noted piece_kind kind_of value_of
  number_step n = go (feed g.due 3 n g.items) refl (feed g.due 3 0 g.items) refl
    where
      go : (f : Fed) → feed g.due 3 n g.items ≡ f → (h : Fed) → feed g.due 3 0 g.items ≡ h → Step fields before g.tokens l (digits n)
      go (went es js) e h i = taken (digits n) (number n) refl tt g.valued.few-names e
      go stuck e stuck i = not-here (digits n) 3 refl i
      go stuck e (went es js) i =
          wrong (outside-32-bits (read_alike g.tokens 3 g.known (omega arith) g.fed i) (refused-right g.tokens (number n) g.fed e))

  field_step : (w : List ℕ) → Step fields before g.tokens l (field_word w)
  unfolding token_of noted piece_kind kind_of value_of
  field_step w = go (position_of w (map word_of fields)) refl
    where
      listed : (i : ℕ) → position_of w (map word_of fields) ≡ some i → (f : Fed) → feed g.due 2 (suc i) g.items ≡ f → Step fields before g.tokens l (field_word w)
      listed i e (went es js) f = taken (field_word w) (field_name (suc i)) (rw e refl) tt g.valued.few-names f
      listed i e stuck f = not-valued (field_word w) 2 (suc i) refl (λ j. omega (arith, j)) f

      unlisted : position_of w (map word_of fields) ≡ none → (f : Fed) → feed g.due 2 0 g.items ≡ f → Step fields before g.tokens l (field_word w)
      unlisted e (went es js) f = wrong (unknown-field (read_alike g.tokens 2 g.known (omega arith) g.fed f) e)
      unlisted e stuck f = not-here (field_word w) 2 refl f

      go : (o : Option ℕ) → position_of w (map word_of fields) ≡ o → Step fields before g.tokens l (field_word w)
      go (some i) e = listed i e (feed g.due 2 (suc i) g.items) refl
      go none e = unlisted e (feed g.due 2 0 g.items) refl

  name-step : (w : List ℕ) → Step fields before g.tokens l (variable w)
  unfolding token_of noted present piece_kind kind_of value_of
  name-step w = go (position_of w (names_in before)) refl
    where
      old : (x : ℕ) → position_of w (names_in before) ≡ some x → (f : Fed) → feed g.due 1 x g.items ≡ f → Step fields before g.tokens l (variable w)
      old x e (went es js) f = taken (variable w) (name x) (rw e (rw e refl)) tt (rw e g.valued.few-names) f
      old x e stuck f = not-valued (variable w) 1 x refl (λ j. omega (arith, j)) f

      new : position_of w (names_in before) ≡ none → length (names_in before) < most_names → (f : Fed) → feed g.due 1 (length (names_in before)) g.items ≡ f
          → Step fields before g.tokens l (variable w)
      new e few (went es js) f =
          taken (variable w) (name (length (names_in before))) (rw e (rw (position-new w (names_in before) e) refl)) tt
          (rw e (omega (arith, few, length-append (names_in before) (w ∷ []))))
          f
      new e few stuck f = not-valued (variable w) 1 (length (names_in before)) refl (λ j. omega (arith, j)) f

      full : position_of w (names_in before) ≡ none → length (names_in before) ≡ most_names → (f : Fed) → feed g.due 1 0 g.items ≡ f
          → Step fields before g.tokens l (variable w)
      full e many (went es js) f = wrong (too-many-names (read_alike g.tokens 1 g.known (omega arith) g.fed f) e many)
      full e many stuck f = not-here (variable w) 1 refl f

      room : position_of w (names_in before) ≡ none → (b : Bool) → ltb (length (names_in before)) most_names ≡ b → Step fields before g.tokens l (variable w)
      room e true h = new e (ltb-true (length (names_in before)) most_names h) (feed g.due 1 (length (names_in before)) g.items) refl
      room e false h =
          let few = g.valued.few-names in
          full e (omega (arith, few, ltb-false (length (names_in before)) most_names h)) (feed g.due 1 0 g.items) refl

      go : (o : Option ℕ) → position_of w (names_in before) ≡ o → Step fields before g.tokens l (variable w)
      go (some x) e = old x e (feed g.due 1 x g.items) refl
      go none e = room e (ltb (length (names_in before)) most_names) refl

  step : (p : Piece) → Above p → Step fields before g.tokens l p
  step (variable w) h = name-step w
  step (field_word w) h = field_step w
  step (digits n) h = number_step n
  step (marked k) h = mark-step k h
  step (bad_byte b) h = wrong bad-byte

-- ---- a text

pub data TextAnswer (fields : List Entry) (text : List ℕ) : Type 0 where
  is_read : {img : List ℕ} → ReadsText fields text img → TextAnswer fields text
  is-refused : {k l : ℕ} → RefusedText fields text k l → TextAnswer fields text

at-end : {fields : List Entry} {text : List ℕ} (ps : List Spot) → Spelled text 1 ps → Sofar fields ps → TextAnswer fields text
unfolding reading
at-end {fields} {text} ps d g = go (finish g.due g.items) refl
  where
    sized : {js : List Item} → reading g.tokens ≡ some js → (b : Bool) → ltb most_nodes (length js) ≡ b → TextAnswer fields text
    sized {js} e b h =
        let w = reads_only g.tokens js g.known e in
        let long = ap length w.2 ∙ items-long w.0 in
        pick b h long (rules-write w.1)
      where
        pick : {c : Cmd} (b : Bool) → ltb most_nodes (length js) ≡ b → length js ≡ size_cmd c → Writes (a_command c) g.tokens → TextAnswer fields text
        pick {c} true i s v =
            is-refused (too-many-nodes d g.valued (record { command = c; writes = v }) (omega (arith, s, ltb-true most_nodes (length js) i)))
        pick {c} false i s v =
            is_read
            (record {
              places = ps;
              spelled = d;
              tokens = g.tokens;
              valued = g.valued;
              tree = c;
              writes = v;
              few-nodes = omega (arith, s, ltb-false most_nodes (length js) i);
              is = refl;
            })

    go : (o : Option (List Item)) → finish g.due g.items ≡ o → TextAnswer fields text
    go none e = is-refused (early-end d (right g 0) (no_text g.tokens (ap finished g.fed ∙ e)))
    go (some js) e = sized (ap finished g.fed ∙ e) (ltb most_nodes (length js)) refl

from-here : {fields : List Entry} {text : List ℕ} (before ps : List Spot) → Spelled text 1 (before ++ ps) → AllAbove ps → Sofar fields before → TextAnswer fields text
from-here before [] d m g = at-end before (subst (Spelled _ 1) (append-nil before) d) g
from-here {fields} {text} before (spot l p ∷ ps) d m g =
    go (step g l p m.0)
    (λ h. from-here (before ++ (spot l p ∷ [])) ps (subst (Spelled text 1) (sym (append_snoc before (spot l p) ps)) d) m.1 h)
  where
    go : Step fields before g.tokens l p → (Sofar fields (before ++ (spot l p ∷ [])) → TextAnswer fields text) → TextAnswer fields text
    go (wrong w) on = is-refused (at-a-place ps d (right g l) w)
    go (goes h) on = on h

pub some-answer : (fields : List Entry) (text : List ℕ) → TextAnswer fields text
unfolding names_in names_from tokens_of feeds
some-answer fields text =
    let s = spelled-some text 1 in
    from-here [] s.0 s.1 (marks-above s.1)
    (record {
      tokens = [];
      due = start;
      items = [];
      valued = record { few-names = omega arith; tokens = refl };
      known = tt;
      fed = refl;
    })
