-- Worked texts, computed from their bytes to the answer: places, names, tokens, what the table makes of them, and with it the image or the refusal. Nothing is written
-- down but the text and its answer, and for a refusal how many places stand before the wrong one. The list of fields is that of grammar's proofs/Cases. Assumes nothing.
use Prim.Native.Nat.{ℕ, ◌≤◌}
use Prim.Native.String.{String}
use mathlib.Core.Path.{◌≡◌, refl, sym, ap, subst, ◌∙◌}
use mathlib.Core.Bool.{Bool, true, ◌&&◌}
use mathlib.Core.Option.{none, some}
use mathlib.Core.List.{List, [], ◌∷◌, ◌++◌, map}
use native.Mathlib.Omega.{arith}
use lib.ListN.{length, take, drop, take-append-drop}
use lib.Dec.{ltb}
use borrow.Author.Tests.{ltb-true}
use Rattle.laws.specs.Bools.{and_both}
use Rattle.rules.specs.Image.{most_nodes, most_names, tags, line_in, line_of, row_in, row_of}
use Rattle.rules.specs.Published.{image}
use Rattle.grammar.specs.Tokens.{Tok, name, field_name, number, mark, kind_of, value_of}
use Rattle.grammar.specs.Places.{Piece, variable, field_word, digits, bad_byte, Spot, spot, Spelled, line_from, last_line}
use Rattle.grammar.specs.FieldList.{position_of, word_of, code_of}
use Rattle.grammar.specs.Nodes.{words, table_cmd}
use Rattle.grammar.specs.Names.{names_in, tokens_of, piece_kind}
use Rattle.grammar.specs.Reads.{Right, Wrong, bad-byte, bad-order, unknown-field, outside-32-bits, too-many-names, at-a-place, early-end, bad-text, ReadsText}
use Rattle.grammar.proofs.Spelling.{places-spelled}
use Rattle.grammar.proofs.Cases.{ascii, opens, fields, listed, Accepts, places_in, Refused}
use Rattle.reading.specs.Items.{Item}
use Rattle.reading.specs.Marks.{Known}
use Rattle.reading.specs.Links.{nodes_in, linked_by, linked, first_by, first_of, link_on, link_from, link}
use Rattle.reading.specs.Table.{Due, does, row_for, plain, signed, operands, commands, minuses, arguments, firsts, sides, went, stuck, feed, feeds, finish, start, reading}
use Rattle.reading.proofs.Sound.{reads_only}
use Rattle.reading.proofs.SameTexts.{rules-write}
use Rattle.reading.proofs.ItemSizes.{items-long}
use Rattle.reading.proofs.ReadLinks.{read-links}
use Rattle.reading.proofs.FirstPlace.{no_text, refused-right, refused-alike, read_right, read_alike}

-- ---- every mark is one, by a test

unfoldable pub is_mark : Tok → Bool
is_mark (name x) = true
is_mark (field_name f) = true
is_mark (number n) = true
is_mark (mark k) = ltb 3 k

unfoldable pub are_marks : List Tok → Bool
are_marks [] = true
are_marks (t ∷ ts) = is_mark t && are_marks ts

-- all that a text is read by
unfoldable pub steps : Unit {0}
unfolding opens places_in fields is_mark are_marks line_from last_line piece_kind value_of does row_for plain signed operands commands minuses arguments firsts sides feed feeds finish reading tags line_in line_of row_in row_of words linked_by linked first_by first_of link_on link_from link
steps = tt

known : (ts : List Tok) → are_marks ts ≡ true → Known ts
unfolding is_mark are_marks
known [] e = tt
known (name x ∷ ts) e = (tt, known ts e)
known (field_name f ∷ ts) e = (tt, known ts e)
known (number n ∷ ts) e = (tt, known ts e)
known (mark k ∷ ts) e = let b = and_both (ltb 3 k) (are_marks ts) e in (ltb-true 3 k b.0, known ts b.1)

spelled-text : (text : String) → Spelled (ascii text) 1 (places_in (ascii text))
unfolding places_in
spelled-text text = places-spelled (length (ascii text)) (ascii text) 1 (omega arith)

-- ---- accepted

pub accepted : (text : String) (us : List Tok) (js : List Item)
    → tokens_of (map word_of fields) (names_in (places_in (ascii text))) (places_in (ascii text)) ≡ some us
    → length (names_in (places_in (ascii text))) ≤ most_names → are_marks us ≡ true → reading us ≡ some js → length js ≤ most_nodes
    → Accepts text (length (names_in (places_in (ascii text)))) (nodes_in (link js))
unfolding fields
accepted text us js e few marks read small =
    let w = reads_only us js (known us marks) read in
    let c = w.0 in
    let long = ap length w.2 ∙ items-long c in
    let is : ReadsText fields (ascii text) (image (map code_of fields) (table_cmd 0 c) (length (names_in (places_in (ascii text))))) =
    record {
      places = places_in (ascii text);
      spelled = spelled-text text;
      tokens = us;
      valued = record { few-names = few; tokens = e };
      tree = c;
      writes = rules-write w.1;
      few-nodes = subst (λ n. n ≤ most_nodes) long small;
      is = refl;
    } in
    let nodes : nodes_in (link js) ≡ table_cmd 0 c = ap (λ ks. nodes_in (link ks)) w.2 ∙ read-links fields (ascii text) _ is (omega arith) in
    record {
      lent = (omega arith, omega arith);
      fields = fields;
      listed = listed;
      read = subst (λ ns. ReadsText fields (ascii text) (image (map code_of fields) ns (length (names_in (places_in (ascii text)))))) (sym nodes) is;
    }

-- ---- refused

-- the places before place n are read, and `ds` is due there
pub record Before (text : String) (n : ℕ) (us : List Tok) (ds : List Due) (is : List Item) : Type 0 where
  pub tokens : tokens_of (map word_of fields) (names_in (take n (places_in (ascii text)))) (take n (places_in (ascii text))) ≡ some us
  pub few : length (names_in (take n (places_in (ascii text)))) ≤ most_names
  pub marks : are_marks us ≡ true
  pub fed : feeds us start [] ≡ went ds is

right : {text : String} {n : ℕ} {us : List Tok} {ds : List Due} {is : List Item} → Before text n us ds is → Right fields (take n (places_in (ascii text))) us
right {us = us} b = record { valued = record { few-names = b.few; tokens = b.tokens }; begins = read_right us (known us b.marks) b.fed }

wrong-at : (text : String) (n l : ℕ) (p : Piece) (after : List Spot) {us : List Tok} {ds : List Due} {is : List Item} {k : ℕ}
    → Before text n us ds is → drop n (places_in (ascii text)) ≡ spot l p ∷ after → Wrong fields (take n (places_in (ascii text))) us p k → Refused text k l
wrong-at text n l p after b e w =
    let ps = places_in (ascii text) in
    let apart : ps ≡ take n ps ++ (spot l p ∷ after) = sym (take-append-drop n ps) ∙ ap (λ qs. take n ps ++ qs) e in
    bad-text (omega arith, omega arith) listed (at-a-place after (subst (Spelled (ascii text) 1) apart (spelled-text text)) (right b) w)

-- 23 at place n
pub order : (text : String) (n : ℕ) {l : ℕ} {p : Piece} {after : List Spot} {us : List Tok} {ds : List Due} {is : List Item} {k : ℕ}
    → Before text n us ds is → drop n (places_in (ascii text)) ≡ spot l p ∷ after → piece_kind p ≡ some k → feed ds k 0 is ≡ stuck → Refused text 23 l
order text n {l} {p} {after} {us} {k = k} b e h f = wrong-at text n l p after b e (bad-order h (refused-alike us k b.fed f))

-- 22 at place n
pub bad : (text : String) (n : ℕ) {l b : ℕ} {after : List Spot} {us : List Tok} {ds : List Due} {is : List Item}
    → Before text n us ds is → drop n (places_in (ascii text)) ≡ spot l (bad_byte b) ∷ after → Refused text 22 l
bad text n {l} {b} {after} g e = wrong-at text n l (bad_byte b) after g e bad-byte

-- 24 at place n
pub unknown : (text : String) (n : ℕ) {l : ℕ} {w : List ℕ} {after : List Spot} {us : List Tok} {ds es : List Due} {is js : List Item}
    → Before text n us ds is → drop n (places_in (ascii text)) ≡ spot l (field_word w) ∷ after → feed ds 2 0 is ≡ went es js → position_of w (map word_of fields) ≡ none
    → Refused text 24 l
unknown text n {l} {w} {after} {us} b e f h =
    wrong-at text n l (field_word w) after b e (unknown-field (read_alike us 2 (known us b.marks) (omega arith) b.fed f) h)

-- 25 at place n
pub large : (text : String) (n : ℕ) {l m : ℕ} {after : List Spot} {us : List Tok} {ds es : List Due} {is js : List Item}
    → Before text n us ds is → drop n (places_in (ascii text)) ≡ spot l (digits m) ∷ after → feed ds 3 0 is ≡ went es js → feed ds 3 m is ≡ stuck → Refused text 25 l
unfolding kind_of value_of
large text n {l} {m} {after} {us} b e f g =
    wrong-at text n l (digits m) after b e
    (outside-32-bits (read_alike us 3 (known us b.marks) (omega arith) b.fed f) (refused-right us (number m) b.fed g))

-- 26 at place n
pub full : (text : String) (n : ℕ) {l : ℕ} {w : List ℕ} {after : List Spot} {us : List Tok} {ds es : List Due} {is js : List Item}
    → Before text n us ds is → drop n (places_in (ascii text)) ≡ spot l (variable w) ∷ after → feed ds 1 0 is ≡ went es js
    → position_of w (names_in (take n (places_in (ascii text)))) ≡ none → length (names_in (take n (places_in (ascii text)))) ≡ most_names → Refused text 26 l
full text n {l} {w} {after} {us} b e f h m =
    wrong-at text n l (variable w) after b e (too-many-names (read_alike us 1 (known us b.marks) (omega arith) b.fed f) h m)

-- 23 at the end
pub early : (text : String) (us : List Tok) {ds : List Due} {is : List Item}
    → tokens_of (map word_of fields) (names_in (places_in (ascii text))) (places_in (ascii text)) ≡ some us
    → length (names_in (places_in (ascii text))) ≤ most_names → are_marks us ≡ true → feeds us start [] ≡ went ds is → reading us ≡ none
    → Refused text 23 (last_line (ascii text))
early text us e few marks fed h =
    bad-text (omega arith, omega arith) listed
    (early-end (spelled-text text)
    (record { valued = record { few-names = few; tokens = e }; begins = read_right us (known us marks) fed })
    (no_text us h))
