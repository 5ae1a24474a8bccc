-- Worked texts: from their bytes through places, names and tokens to the nodes of the image, all computed but the reading itself, which is written down. The list of
-- fields is `f,3` and `g,7`. A line of nodes has a tag and three words. Assumes nothing.
use Prim.Native.Nat.{ℕ, suc, ◌≤◌}
use Prim.Native.Char.{code}
use Prim.Native.String.{String}
use Prim.Native.String as S
use mathlib.Core.Path.{◌≡◌, refl, subst}
use mathlib.Core.Option.{some}
use mathlib.Core.List.{List, [], ◌∷◌, ◌++◌, map}
use native.Mathlib.Omega.{arith}
use lib.ListN.{length}
use Rattle.rules.specs.Syntax.{Cmd, int, field, ref, assign_field, skip}
use Rattle.rules.specs.Image.{most_nodes, most_names}
use Rattle.rules.specs.Published.{image, Increasing}
use Rattle.rules.specs.declared.Node.{Node}
use Rattle.grammar.specs.Classes.{blanks, symbols, among, class_of, is_letter, is_digit, in_word}
use Rattle.grammar.specs.Tokens.{Tok, kind_of, name, field_name, number, dot, becomes, reserved, single, double, same_word, spelled}
use Rattle.grammar.specs.Places.{Piece, variable, marked, Spot, spot, Spelled, lower_or, word_piece, decimal_from, decimal, every, begins, present, paired, line_after}
use Rattle.grammar.specs.FieldList.{Entry, entry, word_of, code_of, FieldName, Rows, no_row, a-row, next, position_of, Listed}
use Rattle.grammar.specs.Grammar.{Writes, a_command, before-digit, alone, a-number, a-negative, a-difference, a-name, a-field, is-less, declares, assigns, assigns-field, skips, repeats, negated}
use Rattle.grammar.specs.Nodes.{size_exp, size_test, size_cmd, words, last_of, table_exp, table_cmd}
use Rattle.grammar.specs.Names.{noted, names_from, names_in, token_of, tokens_of}
use Rattle.grammar.specs.Reads.{Wrong, bad-byte, unknown-field, at-a-place, most_bytes, words_for, Reads, Refuses, short-output, short-work, bad-list, bad-text}
use Rattle.grammar.proofs.Runs.{run, after}
use Rattle.grammar.proofs.Cuts.{pair_of, after_one, cut_symbol, cut}
use Rattle.grammar.proofs.Listing.{rows-one}
use Rattle.grammar.proofs.Spelling.{onward, places, places-spelled}

abbrev pub ascii : String → List ℕ
ascii S.[] = []
ascii (S.◌∷◌ c s) = code c ∷ ascii s

-- all that a text's places, names, tokens and nodes compute by
unfoldable pub opens : Unit {0}
unfolding kind_of blanks symbols among class_of is_letter is_digit in_word reserved single double same_word spelled lower_or word_piece decimal_from decimal every begins present paired line_after run after pair_of after_one cut_symbol cut onward places next position_of noted names_from names_in token_of tokens_of word_of code_of negated size_exp size_test size_cmd words last_of table_exp
opens = tt

-- ---- the list

unfoldable pub field_rows : List ℕ
field_rows = ascii "f,3\ng,7\n"

unfoldable pub fields : List Entry
fields = entry (ascii "f") 3 ∷ entry (ascii "g") 7 ∷ []

f-name : FieldName (ascii "f")
unfolding opens
f-name = record { first = 102; rest = []; is = refl; low = refl; follow = refl; free = refl }

g-name : FieldName (ascii "g")
unfolding opens
g-name = record { first = 103; rest = []; is = refl; low = refl; follow = refl; free = refl }

pub listed : Listed field_rows fields
unfolding opens field_rows fields
listed =
    record {
      rows = a-row 51 [] f-name refl (a-row 55 [] g-name refl no_row);
      few = omega arith;
      different = (refl, (refl, tt));
      increasing = (omega arith, omega arith, (omega arith, omega arith, tt));
    }

-- ---- the texts

-- a text, the number of its names, its nodes
abbrev pub Accepts : String → ℕ → List Node → Type 0
Accepts text names nodes = Reads most_bytes (words_for (length (ascii text))) field_rows (ascii text) (image (map code_of fields) nodes names)

unfoldable pub places_in : List ℕ → List Spot
places_in text = places (length text) text 1

accepted : (text : String) (ts : List Tok) (c : Cmd)
    → tokens_of (map word_of fields) (names_in (places_in (ascii text))) (places_in (ascii text)) ≡ some ts
    → length (names_in (places_in (ascii text))) ≤ most_names → Writes (a_command c) ts → size_cmd c ≤ most_nodes
    → Accepts text (length (names_in (places_in (ascii text)))) (table_cmd 0 c)
unfolding places_in
accepted text ts c e few w small =
    record {
      lent = (omega arith, omega arith);
      fields = fields;
      listed = listed;
      read =
          record {
            places = places_in (ascii text);
            spelled = places-spelled (length (ascii text)) (ascii text) 1 (omega arith);
            tokens = ts;
            valued = record { few-names = few; tokens = e };
            tree = c;
            writes = w;
            few-nodes = small;
            is = refl;
          };
    }

-- 1: the smallest
pub skip-alone : Accepts "skip" 0 (words 37 0 0 0 ∷ [])
unfolding opens places_in fields
skip-alone = accepted "skip" _ _ refl (omega arith) skips (omega arith)

-- 5
pub one_name : Accepts "var X; X = 1" 1 (words 2 1 0 0 ∷ words 35 0 0 0 ∷ words 32 0 1 0 ∷ [])
unfolding opens places_in fields
one_name = accepted "var X; X = 1" _ _ refl (omega arith) (declares (assigns (a-number (omega arith)))) (omega arith)

-- 16: to the left
pub two-minuses : Accepts "X = 1 - 2 - 3" 1 (words 2 1 0 0 ∷ words 2 2 0 0 ∷ words 3 0 1 0 ∷ words 2 3 0 0 ∷ words 3 2 3 0 ∷ words 35 0 4 0 ∷ [])
unfolding opens places_in fields
two-minuses =
    accepted "X = 1 - 2 - 3" _ _ refl (omega arith)
    (assigns (a-difference (a-difference (a-number (omega arith)) alone (a-number (omega arith)) tt) alone (a-number (omega arith)) tt))
    (omega arith)

-- 22: a digit directly behind a minus, and it is a difference: an operand has just ended
pub sign-behind-operand : Accepts "X = Y -1" 2 (words 5 1 0 0 ∷ words 2 1 0 0 ∷ words 3 0 1 0 ∷ words 35 0 2 0 ∷ [])
unfolding opens places_in fields
sign-behind-operand =
    accepted "X = Y -1" _ _ refl (omega arith) (assigns (a-difference a-name before-digit (a-number (omega arith)) tt)) (omega arith)

-- 24
pub minus-and-sign : Accepts "X = Y--1" 2 (words 5 1 0 0 ∷ words 2 65535 65535 0 ∷ words 3 0 1 0 ∷ words 35 0 2 0 ∷ [])
unfolding opens places_in fields
minus-and-sign = accepted "X = Y--1" _ _ refl (omega arith) (assigns (a-difference a-name alone (a-negative (omega arith)) tt)) (omega arith)

-- 69: a number runs as far as it can, and a word begins there
pub no-blanks : Accepts "while X<1skip" 1 (words 5 0 0 0 ∷ words 2 1 0 0 ∷ words 19 0 1 0 ∷ words 37 0 0 0 ∷ words 39 2 3 0 ∷ [])
unfolding opens places_in fields
no-blanks = accepted "while X<1skip" _ _ refl (omega arith) (repeats (is-less a-name (a-number (omega arith))) skips (λ e. omega (arith, e))) (omega arith)

-- ---- refused

-- a text, a refusal's number and its line
abbrev pub Refused : String → ℕ → ℕ → Type 0
Refused text k l = Refuses most_bytes (words_for (length (ascii text))) field_rows (ascii text) k l

-- at a place of these
refused : (text : String) (before : List Spot) (l : ℕ) (p : Piece) (after : List Spot) (us rest : List Tok) (c : Cmd) {k : ℕ}
    → places_in (ascii text) ≡ before ++ (spot l p ∷ after) → tokens_of (map word_of fields) (names_in before) before ≡ some us
    → length (names_in before) ≤ most_names → Writes (a_command c) (us ++ rest) → Wrong fields before us p k → Refused text k l
unfolding places_in
refused text before l p after us rest c e tokens few w wrong =
    bad-text
    (omega arith, omega arith)
    listed
    (at-a-place
    after
    (subst (Spelled (ascii text) 1) e (places-spelled (length (ascii text)) (ascii text) 1 (omega arith)))
    (record {
      valued = record { few-names = few; tokens = tokens };
      begins = record { rest = rest; text = record { command = c; writes = w } };
    })
    wrong)

-- 89: on its own line
pub bad-second-line : Refused "skip\n#" 22 2
unfolding opens places_in fields
bad-second-line = refused "skip\n#" (spot 1 (marked 12) ∷ []) 2 _ [] _ [] (skip 0) refl refl (omega arith) skips bad-byte

-- 44
pub field-not-listed : Refused "X.h = 1" 24 1
unfolding opens places_in fields
field-not-listed =
    refused "X.h = 1" (spot 1 (variable (ascii "X")) ∷ spot 1 (marked 23) ∷ []) 1 _ _ _ (field_name 1 ∷ becomes ∷ number 1 ∷ []) _ refl refl (omega arith)
    known
    (unknown-field (record { tokens = name 0 ∷ dot ∷ field_name 1 ∷ []; alike = refl; begins = record { rest = becomes ∷ number 1 ∷ []; text = record { command = _; writes = known } } }) refl)
  where
    known : Writes (a_command (assign_field 0 (ref 0 0) (field 0 1) (int 0 1))) (name 0 ∷ dot ∷ field_name 1 ∷ becomes ∷ number 1 ∷ [])
    known = assigns-field a-name tt a-field tt tt (a-number {n = 1} (omega arith))

-- 108: a code is at least 1, whatever the text
pub code-zero : (text : List ℕ) → Refuses most_bytes (words_for (length text)) (ascii "f,0\n") text 21 0
unfolding opens
code-zero text = bad-list (omega arith, omega arith) unlisted
  where
    rows : Rows (ascii "f,0\n") (entry (ascii "f") 0 ∷ [])
    rows = a-row 48 [] f-name refl no_row

    unlisted : (fs : List Entry) → Listed (ascii "f,0\n") fs → ⊥
    unlisted fs h =
        let i = subst (λ gs. Increasing 0 (map code_of gs)) (rows-one h.rows rows) h.increasing in
        omega (arith, i.0)

-- one word less, one byte less
pub word-short : (list text : List ℕ) (w : ℕ) → suc w ≡ words_for (length text) → Refuses most_bytes w list text 28 0
word-short list text w e = short-work (omega arith) (omega arith)

pub byte-short : (list text : List ℕ) (w : ℕ) → Refuses 16425 w list text 20 0
byte-short list text w = short-output (omega arith)

-- and how many words that is
pub words-for-skip : words_for (length (ascii "skip")) ≡ 16
words-for-skip = refl
