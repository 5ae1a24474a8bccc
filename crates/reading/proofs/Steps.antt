-- What the next place of a text does to `Progress`: it is taken, and reading goes on behind it; or the text is refused there, with the number of what is
-- wrong and the line of the place. What is found next is told by what it puts before the places of the rest, whatever they are. Assumes nothing.
use Prim.Native.Nat.{ℕ, suc, ◌<◌, ◌≤◌}
use mathlib.Core.Path.{◌≡◌, refl, sym, ap, subst, ◌∙◌}
use mathlib.Core.Option.{none, some}
use mathlib.Core.List.{List, [], ◌∷◌, ◌++◌, map}
use native.Mathlib.Omega.{arith}
use lib.ListN.{length, drop, length-append}
use lib.Seq.{append_snoc}
use Rattle.rules.specs.Image.{most_names}
use Rattle.grammar.specs.Tokens.{Tok, name, field_name, number, mark, kind_of, value_of}
use Rattle.grammar.specs.Places.{Piece, variable, field_word, digits, marked, bad_byte, Spot, spot, present, Spelled}
use Rattle.grammar.specs.FieldList.{Entry, word_of, position_of}
use Rattle.grammar.specs.Grammar.{Text}
use Rattle.grammar.specs.Names.{noted, names_from, names_in, token_of, tokens_of, piece_kind}
use Rattle.grammar.specs.Reads.{Right, GoesOn, Wrong, bad-byte, bad-order, unknown-field, outside-32-bits, too-many-names, RefusedText, at-a-place}
use Rattle.grammar.proofs.Spelling.{spelled-some}
use Rattle.grammar.proofs.Numbering.{position-new}
use Rattle.reading.specs.Items.{Item}
use Rattle.reading.specs.Marks.{IsMark}
use Rattle.reading.specs.Table.{Due, went, stuck, feed, feeds, finish, finished, start, reading}
use Rattle.reading.specs.Progress.{Progress}
use Rattle.reading.proofs.FirstPlace.{fed-next, fed-one, known-append, no_text, a-text, refused-right, refused-alike, read_right, read_alike}
use Rattle.reading.proofs.Longer.{names_more, valued-more}

-- from byte `at` on the next place has `p` on line `line2`, and the rest begins at byte `at2`
abbrev pub Next : Piece → ℕ → ℕ → ℕ → ℕ → List ℕ → Type 0
Next p at line at2 line2 text = (ps : List Spot) → Spelled (drop at2 text) line2 ps → Spelled (drop at text) line (spot line2 p ∷ ps)

-- ---- at the start nothing is read

pub begins : (fields : List Entry) (text : List ℕ) → Progress fields text 0 1 [] start []
unfolding names_in names_from tokens_of feeds
begins fields text =
    record {
      before = [];
      tokens = [];
      spelled = λ ps h. h;
      named = refl;
      valued = record { few-names = omega arith; tokens = refl };
      known = tt;
      fed = refl;
    }

module _ {fields : List Entry} {text : List ℕ} {at line : ℕ} {names : List (List ℕ)} {ds : List Due} {is : List Item} (g : Progress fields text at line names ds is) where
  -- ---- the next place

  pub few-so-far : length names ≤ most_names
  few-so-far = rw g.named at g.valued.few-names

  pub right-so-far : Right fields g.before g.tokens
  right-so-far = record { valued = g.valued; begins = read_right g.tokens g.known g.fed }

  -- a text can go on with a kind that the table takes, and with no other
  pub takes-kind : {es : List Due} {js : List Item} (k : ℕ) → 0 < k → feed ds k 0 is ≡ went es js → GoesOn g.tokens k
  takes-kind k h f = read_alike g.tokens k g.known h g.fed f

  pub refuses-kind : (k : ℕ) → feed ds k 0 is ≡ stuck → GoesOn g.tokens k → ⊥
  refuses-kind k f = refused-alike g.tokens k g.fed f

  -- it can end where nothing is due that has to come, and nowhere else
  pub can-end : {js : List Item} → finish ds is ≡ some js → Text g.tokens
  unfolding reading
  can-end h = a-text g.tokens g.known (ap finished g.fed ∙ h)

  pub cannot-end : finish ds is ≡ none → Text g.tokens → ⊥
  unfolding reading
  cannot-end h = no_text g.tokens (ap finished g.fed ∙ h)

  module _ (p : Piece) (at2 line2 : ℕ) (next : Next p at line at2 line2 text) where
    -- the place is taken
    pub goes_on : {t : Tok} {es : List Due} {js : List Item}
        → token_of (map word_of fields) (noted names p) p ≡ some t → IsMark t → length (noted names p) ≤ most_names
        → feed ds (kind_of t) (value_of t) is ≡ went es js
        → Progress fields text at2 line2 (noted names p) es js
    goes_on {t} {es} {js} e m few f =
        let same : noted (names_in g.before) p ≡ noted names p = ap (λ ns. noted ns p) g.named in
        record {
          before = g.before ++ (spot line2 p ∷ []);
          tokens = g.tokens ++ (t ∷ []);
          spelled = λ ps h. subst (Spelled text 1) (sym (append_snoc g.before (spot line2 p) ps)) (g.spelled (spot line2 p ∷ ps) (next ps h));
          named = names_more g.before line2 p ∙ same;
          valued = valued-more line2 p t g.valued (rw same e) (rw same few);
          known = known-append g.tokens (t ∷ []) g.known (m, tt);
          fed = fed-next g.tokens (t ∷ []) g.fed ∙ fed-one t ds is (went es js) f;
        }

    -- by what stands there: a name that is known, a new one, a field of the list, a number, a reserved word or a symbol
    goes_by : {q : Piece} {t : Tok} {ns : List (List ℕ)} {es : List Due} {js : List Item}
        → p ≡ q → noted names q ≡ ns → token_of (map word_of fields) ns q ≡ some t → IsMark t → length ns ≤ most_names
        → feed ds (kind_of t) (value_of t) is ≡ went es js
        → Progress fields text at2 line2 ns es js
    goes_by {q} {t} {ns} {es} {js} e n o m few f =
        let i : noted names p ≡ ns = ap (noted names) e ∙ n in
        subst (λ ms. Progress fields text at2 line2 ms es js) i (goes_on {t = t} (rw (i, e) o) m (rw i few) f)

    pub name-goes-on : {w : List ℕ} {x : ℕ} {es : List Due} {js : List Item}
        → p ≡ variable w → position_of w names ≡ some x → feed ds 1 x is ≡ went es js → Progress fields text at2 line2 names es js
    unfolding noted present token_of kind_of value_of
    name-goes-on {x} e i f = goes_by {t = name x} e (rw i refl) (rw i refl) tt few-so-far f

    pub new-name-goes-on : {w : List ℕ} {es : List Due} {js : List Item}
        → p ≡ variable w → position_of w names ≡ none → length names < most_names → feed ds 1 (length names) is ≡ went es js
        → Progress fields text at2 line2 (names ++ (w ∷ [])) es js
    unfolding noted present token_of kind_of value_of
    new-name-goes-on {w} e i few f =
        goes_by {t = name (length names)} e (rw i refl) (rw (position-new w names i) refl) tt (omega (arith, length-append names (w ∷ []))) f

    pub field-goes-on : {w : List ℕ} {i : ℕ} {es : List Due} {js : List Item}
        → p ≡ field_word w → position_of w (map word_of fields) ≡ some i → feed ds 2 (suc i) is ≡ went es js → Progress fields text at2 line2 names es js
    unfolding noted token_of kind_of value_of
    field-goes-on {i = i} e h f = goes_by {t = field_name (suc i)} e refl (rw h refl) tt few-so-far f

    pub number-goes-on : {n : ℕ} {es : List Due} {js : List Item} → p ≡ digits n → feed ds 3 n is ≡ went es js → Progress fields text at2 line2 names es js
    unfolding noted token_of kind_of value_of
    number-goes-on {n} e f = goes_by {t = number n} e refl refl tt few-so-far f

    pub mark-goes-on : {k : ℕ} {es : List Due} {js : List Item} → p ≡ marked k → 3 < k → feed ds k 0 is ≡ went es js → Progress fields text at2 line2 names es js
    unfolding noted token_of kind_of value_of
    mark-goes-on {k} e h f = goes_by {t = mark k} e refl refl h few-so-far f

    -- or the text is refused there
    pub refused-here : {k : ℕ} → Wrong fields g.before g.tokens p k → RefusedText fields text k line2
    refused-here w =
        let rest = spelled-some (drop at2 text) line2 in
        at-a-place rest.0 (g.spelled (spot line2 p ∷ rest.0) (next rest.0 rest.1)) right-so-far w

  -- ---- what is wrong there

  module _ (p : Piece) where
    wrong-as : {q : Piece} {k : ℕ} → p ≡ q → Wrong fields g.before g.tokens q k → Wrong fields g.before g.tokens p k
    wrong-as {k = k} e w = subst (λ r. Wrong fields g.before g.tokens r k) (sym e) w

    pub wrong_byte : {b : ℕ} → p ≡ bad_byte b → Wrong fields g.before g.tokens p 22
    wrong_byte e = wrong-as e bad-byte

    -- whatever its name, field or number
    pub wrong-order : {k : ℕ} → piece_kind p ≡ some k → feed ds k 0 is ≡ stuck → Wrong fields g.before g.tokens p 23
    wrong-order {k} e f = bad-order e (refuses-kind k f)

    pub wrong-field : {w : List ℕ} {es : List Due} {js : List Item}
        → p ≡ field_word w → position_of w (map word_of fields) ≡ none → feed ds 2 0 is ≡ went es js → Wrong fields g.before g.tokens p 24
    wrong-field e h f = wrong-as e (unknown-field (takes-kind 2 (omega arith) f) h)

    pub wrong-number : {n : ℕ} {es : List Due} {js : List Item}
        → p ≡ digits n → feed ds 3 0 is ≡ went es js → feed ds 3 n is ≡ stuck → Wrong fields g.before g.tokens p 25
    unfolding kind_of value_of
    wrong-number {n} e f h = wrong-as e (outside-32-bits (takes-kind 3 (omega arith) f) (refused-right g.tokens (number n) g.fed h))

    pub wrong_name : {w : List ℕ} {es : List Due} {js : List Item}
        → p ≡ variable w → position_of w names ≡ none → length names ≡ most_names → feed ds 1 0 is ≡ went es js → Wrong fields g.before g.tokens p 26
    wrong_name e h l f = wrong-as e (too-many-names (takes-kind 1 (omega arith) f) (rw g.named h) (rw g.named l))
