-- The bytes of a token are read as its piece: words, numbers, and each row of the tables of reserved words and symbols, where what follows stops them. A
-- blank, a closing symbol or the end does; behind an opening symbol nothing has to. Assumes nothing.
use Prim.Native.Nat.{ℕ}
use mathlib.Core.Path.{◌≡◌, refl, sym, ap, subst, ◌∙◌}
use mathlib.Core.Bool.{Bool, true, false, cond, false≢true, ◌||◌}
use mathlib.Core.Option.{none, some}
use mathlib.Core.List.{List, [], ◌∷◌, ◌++◌}
use lib.Dec.{eqb}
use borrow.Author.Tests.{eqb-true}
use Rattle.laws.specs.Bools.{or_right}
use Rattle.grammar.specs.Classes.{blanks, symbols, among, class_of, is_letter, is_digit, in_word}
use Rattle.grammar.specs.Tokens.{Spelling, spelling, reserved, single, double, same_word, spelled}
use Rattle.grammar.specs.Places.{Piece, variable, field_word, digits, marked, Spot, spot, lower_or, word_piece, decimal, every, begins, present, paired, line_after, Spelled, a-blank, a_word, a-number, a-symbol, a_pair, a-sign, a-minus}
use Rattle.grammar.specs.FieldList.{FieldName}
use Rattle.writing.specs.Spell.{decimal_of, marks, spelled_as, has_kind, opening, closing, tight, VariableName}
use Rattle.writing.proofs.Decimals.{says-number, decimal-digits}

-- ---- what follows

-- no word goes on with the first byte, and no symbol takes it in
abbrev pub Stops : List ℕ → Type 0
Stops [] = Unit {0}
Stops (b ∷ s) = (in_word b ≡ false) × (eqb b 61 ≡ false) × (eqb b 124 ≡ false)

no_word : (s : List ℕ) → Stops s → begins in_word s ≡ false
unfolding begins
no_word [] h = refl
no_word (b ∷ s) h = h.0

no_digit : (s : List ℕ) → Stops s → begins is_digit s ≡ false
unfolding begins in_word
no_digit [] h = refl
no_digit (b ∷ s) h = or_right (is_letter b) (is_digit b) h.0

no-pair : (b : ℕ) (s : List ℕ) → ((c : ℕ) → eqb c 61 ≡ false → eqb c 124 ≡ false → paired b c ≡ false) → Stops s → begins (paired b) s ≡ false
unfolding begins
no-pair b [] f h = refl
no-pair b (c ∷ s) f h = f c h.1 h.2

-- the bytes w are read as the piece p, where what follows stops them
abbrev pub Spelt : List ℕ → Piece → Type 0
Spelt w p = (s : List ℕ) (l : ℕ) (ps : List Spot) → Stops s → Spelled s l ps → Spelled (w ++ s) l (spot l p ∷ ps)

-- ---- words and numbers

pub a-variable : (w : List ℕ) → VariableName w → Spelt w (variable w)
unfolding word_piece is_letter
a-variable w v s l ps h d =
    let p : word_piece v.first v.rest ≡ variable (v.first ∷ v.rest) = rw v.up refl in
    let k : is_letter v.first ≡ true = rw v.up refl in
    let e = v.is in
    rw (e, ← p) (a_word v.rest k v.follow (no_word s h) d)

pub a-field : (w : List ℕ) → FieldName w → Spelt w (field_word w)
unfolding word_piece is_letter lower_or
a-field w v s l ps h d =
    let e = v.is in
    let f : spelled (v.first ∷ v.rest) reserved ≡ none = subst (λ x. spelled x reserved ≡ none) e v.free in
    let p : word_piece v.first v.rest ≡ field_word (v.first ∷ v.rest) = rw (v.low, f) refl in
    let k : is_letter v.first ≡ true = rw v.low refl in
    rw (e, ← p) (a_word v.rest k v.follow (no_word s h) d)

pub a-decimal : (n : ℕ) → Spelt (decimal_of n) (digits n)
a-decimal n s l ps h d =
    let v = decimal-digits n in
    let e = v.is in
    let p : decimal (v.first ∷ v.rest) ≡ n = ap decimal (sym e) ∙ says-number n in
    subst (λ m. Spelled (decimal_of n ++ s) l (spot l (digits m) ∷ ps)) p
    (rw e (a-number v.rest v.digit v.digits (no_digit s h) d))

-- ---- reserved words and symbols: each row of the tables but the sign's

pub record Row (w : List ℕ) (k : ℕ) : Type 0 where
  pub spelt : (k ≡ 4 → ⊥) → Spelt w (marked k)

abbrev pub Rows : List Spelling → Type 0
Rows [] = Unit {0}
Rows (spelling w k ∷ rest) = Row w k × Rows rest

word_row : (b : ℕ) (w : List ℕ) (k : ℕ) → is_letter b ≡ true → every in_word w ≡ true → word_piece b w ≡ marked k → Row (b ∷ w) k
word_row b w k g h e = record { spelt = λ n s l ps i d. rw (← e) (a_word w g h (no_word s i) d) }

symbol-row : (b k : ℕ) → spelled (b ∷ []) single ≡ some k → ((c : ℕ) → eqb c 61 ≡ false → eqb c 124 ≡ false → paired b c ≡ false) → Row (b ∷ []) k
symbol-row b k g f = record { spelt = λ n s l ps i d. a-symbol g (no-pair b s f i) d }

pair_row : (b c k : ℕ) → spelled (b ∷ c ∷ []) double ≡ some k → Row (b ∷ c ∷ []) k
pair_row b c k g = record { spelt = λ n s l ps i d. a_pair g d }

-- one row, and the others
infixr 20 ◌&◌
◌&◌ : {A B : Type 0} → A → B → A × B
a & b = (a, b)

pub rows : Rows marks
unfolding marks reserved single double spelled same_word word_piece lower_or is_letter is_digit in_word class_of among blanks symbols every paired present
rows =
    word_row _ _ _ refl refl refl
    & word_row _ _ _ refl refl refl
    & word_row _ _ _ refl refl refl
    & word_row _ _ _ refl refl refl
    & word_row _ _ _ refl refl refl
    & word_row _ _ _ refl refl refl
    & word_row _ _ _ refl refl refl
    & word_row _ _ _ refl refl refl
    & word_row _ _ _ refl refl refl
    & word_row _ _ _ refl refl refl
    & word_row _ _ _ refl refl refl
    & word_row _ _ _ refl refl refl
    & symbol-row _ _ refl (λ c e f. refl)
    & symbol-row _ _ refl (λ c e f. refl)
    & symbol-row _ _ refl (λ c e f. refl)
    & symbol-row _ _ refl (λ c e f. refl)
    & symbol-row _ _ refl (λ c e f. refl)
    & symbol-row _ _ refl (λ c e f. refl)
    & symbol-row _ _ refl (λ c e f. rw e refl)
    & symbol-row _ _ refl (λ c e f. refl)
    & symbol-row _ _ refl (λ c e f. refl)
    & symbol-row _ _ refl (λ c e f. rw f refl)
    & pair_row _ _ _ refl
    & pair_row _ _ _ refl
    & record { spelt = λ n. absurd (n refl) }
    & record { spelt = λ n s l ps h d. a-minus (no_digit s h) d }
    & tt

pub row_of : (k : ℕ) (table : List Spelling) → Rows table → has_kind k table ≡ true → Row (spelled_as k table) k
unfolding has_kind spelled_as
row_of k [] h e = absurd (false≢true e)
row_of k (spelling w j ∷ rest) h e = go (eqb k j) refl e (row_of k rest h.1)
  where
    go : (t : Bool) → eqb k j ≡ t → (t || has_kind k rest) ≡ true → (has_kind k rest ≡ true → Row (spelled_as k rest) k) → Row (cond t w (spelled_as k rest)) k
    go true i g f = subst (λ m. Row w m) (sym (eqb-true k j i)) h.0
    go false i g f = f g

-- ---- what holds of each kind of a list

abbrev pub AllOf : (ℕ → Type 0) → List ℕ → Type 0
AllOf P [] = Unit {0}
AllOf P (j ∷ js) = P j × AllOf P js

pub of-all : (P : ℕ → Type 0) (k : ℕ) (ks : List ℕ) → AllOf P ks → among k ks ≡ true → P k
unfolding among
of-all P k [] h e = absurd (false≢true e)
of-all P k (j ∷ js) h e = go (eqb k j) refl e (of-all P k js h.1)
  where
    go : (t : Bool) → eqb k j ≡ t → (t || among k js) ≡ true → (among k js ≡ true → P k) → P k
    go true i g f = subst P (sym (eqb-true k j i)) h.0
    go false i g f = f g

-- nothing has to follow what opens
abbrev pub Opens : ℕ → Type 0
Opens k = (k ≡ 4 → ⊥) → (s : List ℕ) (l : ℕ) (ps : List Spot) → Spelled s l ps → Spelled (spelled_as k marks ++ s) l (spot l (marked k) ∷ ps)

alone : (b k : ℕ) → spelled (b ∷ []) single ≡ some k → ((c : ℕ) → paired b c ≡ false)
    → (s : List ℕ) (l : ℕ) (ps : List Spot) → Spelled s l ps → Spelled (b ∷ s) l (spot l (marked k) ∷ ps)
unfolding begins
alone b k e f [] l ps d = a-symbol e refl d
alone b k e f (c ∷ s) l ps d = a-symbol e (f c) d

pub opens : AllOf Opens opening
unfolding opening marks reserved single double spelled spelled_as same_word paired present
opens =
    (λ n. absurd (n refl))
    & (λ n. alone 40 17 refl (λ c. refl))
    & (λ n. alone 123 19 refl (λ c. refl))
    & (λ n. alone 46 23 refl (λ c. refl))
    & tt

-- what closes stops what stands before it
abbrev pub Closes : ℕ → Type 0
Closes k = (s : List ℕ) → Stops (spelled_as k marks ++ s)

pub closes : AllOf Closes closing
unfolding closing marks reserved single spelled_as is_letter is_digit in_word class_of among blanks symbols
closes = (λ s. (refl, refl, refl)) & (λ s. (refl, refl, refl)) & (λ s. (refl, refl, refl)) & (λ s. (refl, refl, refl)) & (λ s. (refl, refl, refl)) & tt

pub begins-group : Closes 17
unfolding marks reserved single spelled_as is_letter is_digit in_word class_of among blanks symbols
begins-group s = (refl, refl, refl)

-- a blank between
pub blank-stops : (s : List ℕ) → Stops (32 ∷ s)
unfolding is_letter is_digit in_word class_of among blanks symbols
blank-stops s = (refl, refl, refl)

pub past-blank : {s : List ℕ} {l : ℕ} {ps : List Spot} → Spelled s l ps → Spelled (32 ∷ s) l ps
unfolding class_of among blanks line_after
past-blank d = a-blank refl d

digit-follows : (m : ℕ) (s : List ℕ) → begins is_digit (decimal_of m ++ s) ≡ true
unfolding begins
digit-follows m s = let v = decimal-digits m in let e = v.is in rw e v.digit

pub sign-number : (m : ℕ) (s : List ℕ) {l : ℕ} {ps : List Spot} → Spelled (decimal_of m ++ s) l ps
    → Spelled (spelled_as 4 marks ++ (cond (tight 4 3) [] (32 ∷ []) ++ (decimal_of m ++ s))) l (spot l (marked 4) ∷ ps)
unfolding marks reserved single double spelled_as tight opening among
sign-number m s d = a-sign (digit-follows m s) d
