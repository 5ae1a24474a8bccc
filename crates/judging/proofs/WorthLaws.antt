-- What a token is worth, kind by kind: a law for each answer of the small functions, and one for each kind that puts them together. Assumes nothing.
use Prim.Native.Nat.{ℕ, suc, ◌+◌, ◌<◌, ◌≤◌, min}
use mathlib.Core.Path.{◌≡◌, refl, sym}
use mathlib.Core.Bool.{cond}
use mathlib.Core.Option.{none, some}
use mathlib.Core.List.{List, [], ◌∷◌, ◌++◌, map}
use native.Mathlib.Omega.{arith}
use native.Mathlib.Numerals.{add-one}
use native.Mathlib.Nat.{min-eq_left, min-eq_right}
use native.Mathlib.Decide.{dec_lt}
use lib.Dec.{ltb}
use lib.ListN.{length}
use borrow.Author.Tests.{ne_eqb, lt-ltb, le-ltb}
use Rattle.laws.specs.UpTo.{length-up_to}
use Rattle.laws.specs.Lists.{length-snoc}
use Rattle.rules.specs.Image.{most_names}
use Rattle.grammar.specs.Tokens.{name, field_name, number, mark, kind_of, value_of}
use Rattle.grammar.specs.Places.{variable, field_word, digits, marked, present, decimal}
use Rattle.grammar.specs.FieldList.{Entry, word_of, position_of}
use Rattle.grammar.specs.Names.{noted, token_of}
use Rattle.grammar.proofs.Numbering.{position-below, position-new}
use Rattle.letters.specs.Says.{piece_by}
use Rattle.std.specs.Prelude.{Option, Some, None, Result, Ok, Err}
use Rattle.laws.specs.Options.{math_option}
use Rattle.fieldlist.specs.declared.names.Span.{Span}
use Rattle.fieldlist.specs.Names.{words}
use Rattle.judging.specs.Worth.{no_field, too_large, one-name-more, WorthSays, name_worth, field_worth, number_worth}
use Rattle.judging.specs.declared.worth.Worth.{Worth}
use Rattle.judging.specs.declared.worth.Worth.TheVariants.{Known, New}
use Rattle.judging.specs.declared.wrong.Wrong.{Wrong}
use Rattle.judging.specs.declared.wrong.Wrong.TheVariants.{NoField, TooLarge, OneNameMore}

-- ---- the small functions

pub name-known : (i n : ℕ) → Ok (Known i) ≡ name_worth (Some i) n
unfolding name_worth
name-known i n = refl

pub name_new : (n : ℕ) → n < most_names → Ok New ≡ name_worth None n
unfolding name_worth
name_new n h = rw (lt-ltb n most_names h)

pub name-too-many : (n : ℕ) → most_names ≤ n → Err OneNameMore ≡ name_worth None n
unfolding name_worth
name-too-many n h = rw (le-ltb n most_names h)

pub ruleset name_lemmas = (name-known, name_new, name-too-many)

pub field-missing : Err NoField ≡ field_worth None
unfolding field_worth
field-missing = refl

pub field-known : (i : ℕ) → Ok (Known (i + 1)) ≡ field_worth (Some i)
unfolding field_worth
field-known i = rw (add-one i)

pub ruleset field_lemmas = (field-missing, field-known)

pub number-too-large : (n : ℕ) → 2147483648 < n → Err TooLarge ≡ number_worth n
unfolding number_worth
number-too-large n h = rw (lt-ltb 2147483648 n h)

pub number-known : (n : ℕ) → n ≤ 2147483648 → Ok (Known n) ≡ number_worth n
unfolding number_worth
number-known n h = rw (le-ltb 2147483648 n h)

pub ruleset number_lemmas = (number-too-large, number-known)

-- ---- a name

pub words_long : (text : List ℕ) (names : List Span) (n : ℕ) → length (words text names n) ≡ n
unfolding words
words_long text names n = length-up_to _ n

module _ (fields : List Entry) (names : List (List ℕ)) (w : List ℕ) where
  name-there : {x : ℕ} → length names ≤ most_names → position_of w names ≡ some x → WorthSays fields names (variable w) 1 (Ok (Known x))
  unfolding noted token_of kind_of value_of present
  name-there {x} few e =
      let same : noted names (variable w) ≡ names = rw e in (
        record {
          token = name x;
          is = rw (same, e);
          kind = refl;
          value = refl;
          few = rw same few;
        },
        same,
        λ k. omega (arith, position-below w names e),
      )

  name-added : length names < most_names → position_of w names ≡ none → WorthSays fields names (variable w) 1 (Ok New)
  unfolding noted token_of kind_of value_of present
  name-added room e =
      let more : noted names (variable w) ≡ names ++ (w ∷ []) = rw e in (
        record {
          token = name (length names);
          is = rw (more, position-new w names e);
          kind = refl;
          value = refl;
          few = rw (more, length-snoc names w) (omega arith);
        },
        refl,
        room,
      )

  name-says : (i : Option ℕ) (n : ℕ) → length names ≡ n → n ≤ most_names → math_option i ≡ position_of w names → WorthSays fields names (variable w) 1 (name_worth i n)
  unfolding name_worth
  name-says None n long few e = go (dec_lt n most_names)
    where
      go : Dec (n < most_names) → WorthSays fields names (variable w) 1 (cond (ltb n most_names) (Ok New) (Err OneNameMore))
      go (yes h) = rw (lt-ltb n most_names h) (name-added (omega (arith, long)) (sym e))
      go (no h) = rw (le-ltb n most_names (omega arith)) (one-name-more (sym e) (omega (arith, long)))
  name-says (Some i) n long few e = name-there (omega (arith, long)) (sym e)

-- ---- a field, a number, any other

module _ (fields : List Entry) (names : List (List ℕ)) (few : length names ≤ most_names) where
  field-says : (w : List ℕ) (i : Option ℕ) → math_option i ≡ position_of w (map word_of fields) → WorthSays fields names (field_word w) 2 (field_worth i)
  unfolding field_worth noted token_of kind_of value_of
  field-says w None e = no_field (sym e)
  field-says w (Some i) e =
      let there : position_of w (map word_of fields) ≡ some i = sym e in
      (record { token = field_name (suc i); is = rw there; kind = refl; value = refl; few = few }, refl, λ k. absurd (omega arith))

  number-says : (n : ℕ) → WorthSays fields names (digits n) 3 (number_worth (min n 8589934592))
  unfolding noted token_of kind_of value_of
  number-says n = go (dec_lt 2147483648 n)
    where
      large : 2147483648 < n → 2147483648 < min n 8589934592
      large h = by (dec_lt n 8589934592)
        where
          by : Dec (n < 8589934592) → 2147483648 < min n 8589934592
          by (yes l) = let m : n ≤ 8589934592 = omega arith in rw (min-eq_left m) h
          by (no l) = let m : 8589934592 ≤ n = omega arith in rw (min-eq_right m) (omega arith)

      go : Dec (2147483648 < n) → WorthSays fields names (digits n) 3 (number_worth (min n 8589934592))
      go (yes h) = rw (← number-too-large (min n 8589934592) (large h)) (too_large h)
      go (no h) =
          let m : n ≤ 8589934592 = omega arith in
          let l : n ≤ 2147483648 = omega arith in
          rw (min-eq_left m, ← number-known n l)
          (record { token = number n; is = refl; kind = refl; value = refl; few = few }, refl, λ k. absurd (omega arith))

  mark-says : (k : ℕ) → (k ≡ 1 → ⊥) → WorthSays fields names (marked k) k (Ok (Known 0))
  unfolding noted token_of kind_of value_of
  mark-says k h = (record { token = mark k; is = refl; kind = refl; value = refl; few = few }, refl, λ e. absurd (h e))

-- ---- by the kind of a place

module _ (fields : List Entry) (text : List ℕ) (names : List Span) (n : ℕ) (few : n ≤ most_names) (w : List ℕ) where
  names-few : length (words text names n) ≤ most_names
  names-few = omega (arith, words_long text names n)

  pub by_name_lem : (k : ℕ) (i : Option ℕ) (r : Result Worth Wrong) → k ≡ 1 → math_option i ≡ position_of w (words text names n) → r ≡ name_worth i n
      → WorthSays fields (words text names n) (piece_by k w) k r
  unfolding piece_by
  by_name_lem k i r e p f = rw (e, f) (name-says fields (words text names n) w i n (words_long text names n) few p)

  pub by_field_lem : (k : ℕ) (i : Option ℕ) (r : Result Worth Wrong) → k ≡ 2 → math_option i ≡ position_of w (map word_of fields) → r ≡ field_worth i
      → WorthSays fields (words text names n) (piece_by k w) k r
  unfolding piece_by
  by_field_lem k i r e p f = rw (e, f) (field-says fields (words text names n) names-few w i p)

  pub by_number : (k m : ℕ) (r : Result Worth Wrong) → k ≡ 3 → m ≡ min (decimal w) 8589934592 → r ≡ number_worth m
      → WorthSays fields (words text names n) (piece_by k w) k r
  unfolding piece_by
  by_number k m r e p f = rw (e, f, p) (number-says fields (words text names n) names-few (decimal w))

  pub by-mark : (k : ℕ) → (k ≡ 1 → ⊥) → (k ≡ 2 → ⊥) → (k ≡ 3 → ⊥) → k < 29 → WorthSays fields (words text names n) (piece_by k w) k (Ok (Known 0))
  unfolding piece_by
  by-mark k a b c l =
      rw (ne_eqb k 1 a, ne_eqb k 2 b, ne_eqb k 3 c, ne_eqb k 29 (λ e. omega arith))
      (mark-says fields (words text names n) names-few k a)
