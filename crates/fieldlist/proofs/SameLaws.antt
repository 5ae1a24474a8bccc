-- A word looked for among the names of a text: the loop's invariant, and a law for each way on and out; the first names of a row of names. Assumes nothing.
use Prim.Native.Nat.{ℕ, zero, suc, ◌+◌, ◌-◌, ◌<◌, ◌≤◌}
use mathlib.Core.Path.{◌≡◌, refl, sym, ap, ◌∙◌}
use mathlib.Core.Bool.{Bool, true, false}
use mathlib.Core.Option.{none, some}
use mathlib.Core.List.{List, [], ◌∷◌}
use native.Mathlib.Omega.{arith}
use native.Mathlib.Nat.{eq-or-lt_of_le}
use mathlib.Core.Logic.{⊎_elim}
use lib.Dec.{eqb}
use lib.ListN.{length, get_or, take, drop}
use lib.Pointwise.{pointwise}
use lib.Seq.{length-take-le, get_or-take}
use Rattle.laws.specs.UpTo.{up_to, length-up_to, up_to-same}
use Rattle.grammar.specs.Tokens.{same_word}
use Rattle.grammar.specs.FieldList.{position_of}
use Rattle.fieldlist.specs.declared.names.Span.{Span}
use Rattle.fieldlist.specs.Names.{nowhere, word_at, words, Spans}
use Rattle.fieldlist.proofs.Pieces.{piece}
use Rattle.fieldlist.proofs.Words.{position-none, position_at}

-- ---- the test of two words

same-words : (w v : List ℕ) → pointwise eqb w v ≡ same_word w v
unfolding same_word
same-words [] [] = refl
same-words [] (c ∷ v) = refl
same-words (b ∷ w) [] = refl
same-words (b ∷ w) (c ∷ v) = rw (same-words w v)

pub part-is : (s : List ℕ) (f t : ℕ) → f ≤ t → take (t - f) (drop f s) ≡ drop f (take t s)
part-is s f t h = let e : f + (t - f) ≡ t = omega arith in rw e at (sym (piece s f (t - f)))

-- ---- a word among the names

words_long : (text : List ℕ) (names : List Span) (n : ℕ) → length (words text names n) ≡ n
unfolding words
words_long text names n = length-up_to _ n

word-get : (f : ℕ → List ℕ) (n k : ℕ) → k < n → get_or (up_to f n) k [] ≡ f k
unfolding up_to
word-get f zero k h = absurd (omega arith)
word-get f (suc n) zero h = refl
word-get f (suc n) (suc k) h = word-get (λ j. f (suc j)) n k (omega arith)

words-at : (text : List ℕ) (names : List Span) (n k : ℕ) → k < n → get_or (words text names n) k [] ≡ word_at text (get_or names k nowhere)
unfolding words
words-at text names n k h = word-get (λ i. word_at text (get_or names i nowhere)) n k h

pub record Seeking (w text : List ℕ) (names : List Span) (i : ℕ) : Type 0 where
  pub not_yet : (k : ℕ) → k < i → same_word w (get_or (words text names (length names)) k []) ≡ false

pub sought-none : {w text : List ℕ} {names : List Span} → Seeking w text names 0
sought-none = record { not_yet = λ k h. absurd (omega arith) }

-- the test at the name in its turn
abbrev pub Tested : List ℕ → List ℕ → Span → Bool → Type 0
Tested w text s r = r ≡ pointwise eqb w (take (s.to - s.from) (drop s.from text))

module _ {w text : List ℕ} {names : List Span} {i : ℕ} (p : Spans text names (length names)) (s : Seeking w text names i) (h : i < length names) where
  tells : {r : Bool} → Tested w text (get_or names i nowhere) r → same_word w (get_or (words text names (length names)) i []) ≡ r
  tells {r} e =
      ap (same_word w) (words-at text names (length names) i h)
      ∙ sym
      (e
      ∙ ap (pointwise eqb w) (part-is text (get_or names i nowhere).from (get_or names i nowhere).to (p.forward i h))
      ∙ same-words w (word_at text (get_or names i nowhere)))

  pub sought-more : {r : Bool} → Tested w text (get_or names i nowhere) r → r ≡ false → Seeking w text names (i + 1)
  sought-more {r} e f =
      record {
        not_yet =
            λ k l.
            ⊎_elim
            (λ q. ap (λ (m : ℕ). same_word w (get_or (words text names (length names)) m [])) q ∙ (tells e ∙ f))
            (λ q. s.not_yet k q)
            (eq-or-lt_of_le {n = k} {m = i} (omega arith));
      }

  pub found : {r : Bool} → Tested w text (get_or names i nowhere) r → r ≡ true → some i ≡ position_of w (words text names (length names))
  found {r} e f =
      sym
      (position_at w (words text names (length names)) i (rw (words_long text names (length names)) h) s.not_yet (tells e ∙ f))

pub in-no-row : {w text : List ℕ} {names : List Span} {i : ℕ} → Seeking w text names i → length names ≤ i → none ≡ position_of w (words text names (length names))
in-no-row {w} {text} {names} s h =
    sym (position-none w (words text names (length names)) (λ k l. s.not_yet k (omega (arith, words_long text names (length names)))))

-- ---- the first n names

module _ (text : List ℕ) (names : List Span) (n : ℕ) (few : n ≤ length names) where
  pub words-front : words text (take n names) (length (take n names)) ≡ words text names n
  unfolding words
  words-front =
      rw (length-take-le n names few)
      (up_to-same _ _ n (λ k h. ap (word_at text) (get_or-take n names k nowhere h)))

  pub spans-front : Spans text names n → Spans text (take n names) (length (take n names))
  spans-front s =
      rw (length-take-le n names few)
      (record {
        forward = λ i h. rw (get_or-take n names i nowhere h) (s.forward i h);
        within = λ i h. rw (get_or-take n names i nowhere h) (s.within i h);
      })
