-- The arrays of an answer: sixteen places each, which are filled one by one, and the rows that stand in them. Assumes nothing.
use Prim.Native.Nat.{ℕ, zero, suc, ◌-◌, ◌<◌, ◌≤◌}
use mathlib.Core.Path.{◌≡◌, refl, sym, ap, ◌∙◌}
use mathlib.Core.List.{List, [], ◌∷◌, ◌++◌, map, map-append}
use native.Mathlib.Omega.{arith}
use mathlib.Core.Option.{Option}
use Rattle.fieldlist.proofs.SameLaws.{words-front as words-first}
use lib.ListN.{length, get_or, set, replicate, take, length-map}
use lib.Seq.{append_snoc, set-append_seam}
use Rattle.laws.specs.UpTo.{up_to}
use Rattle.laws.specs.Lists.{length-snoc}
use Rattle.rules.specs.Image.{most_fields}
use Rattle.grammar.specs.FieldList.{entry, word_of, position_of}
use Rattle.fieldlist.specs.Judged.{Line, number_of, name_of, entry_of}
use Rattle.fieldlist.specs.declared.names.Span.{Span}
use Rattle.fieldlist.specs.Names.{nowhere, word_at, words, Spans}
use Rattle.fieldlist.specs.Answer.{sixteen, span_of, entries_of, RightRows}
use Rattle.fieldlist.specs.declared.FieldRows.{FieldRows}
use Rattle.fieldlist.proofs.Sound.{Placed, Right}

-- ---- one more

module _ {A : Type 0} (z : A) where
  sixteen-push : (xs : List A) (a : A) → length xs < most_fields → set (sixteen z xs) (length xs) a ≡ sixteen z (xs ++ (a ∷ []))
  unfolding sixteen
  sixteen-push xs a h =
      let e : most_fields - length xs ≡ suc (most_fields - suc (length xs)) = omega arith in
      rw (e, length-snoc xs a) (set-append_seam xs z _ a ∙ sym (append_snoc xs a _))

  pub push : (f : Line → A) (ls : List Line) (l : Line) (n : ℕ) (a : A) (xs : List A)
      → xs ≡ sixteen z (map f ls) → n ≡ length ls → n < most_fields → a ≡ f l → set xs n a ≡ sixteen z (map f (ls ++ (l ∷ [])))
  push f ls l n a xs e m h g =
      let k : n ≡ length (map f ls) = m ∙ sym (length-map ls f) in
      rw (e, k, g, map-append f ls (l ∷ [])) (sixteen-push (map f ls) (f l) (rw (← k) h))

  spare : (f : Line → A) (ls : List Line) (n i : ℕ) → length ls ≤ i → get_or (map f ls ++ replicate n z) i z ≡ z
  spare f [] zero i h = refl
  spare f [] (suc n) zero h = refl
  spare f [] (suc n) (suc i) h = spare f [] n i (omega arith)
  spare f (l ∷ ls) n zero h = absurd (omega arith)
  spare f (l ∷ ls) n (suc i) h = spare f ls n i (omega arith)

  sixteen-spare : (f : Line → A) (ls : List Line) (i : ℕ) → length ls ≤ i → get_or (sixteen z (map f ls)) i z ≡ z
  unfolding sixteen
  sixteen-spare f ls i h = spare f ls (most_fields - length (map f ls)) i h

-- the rows of these lines
abbrev pub rows_of : List Line → FieldRows
rows_of ls = record { count = length ls; names = sixteen nowhere (map span_of ls); codes = sixteen 0 (map number_of ls) }

-- ---- the rows in the arrays

module _ (list : List ℕ) where
  words-front : (ls : List Line) (us : List Span) → up_to (λ i. word_at list (get_or (map span_of ls ++ us) i nowhere)) (length ls) ≡ map (name_of list) ls
  unfolding up_to name_of
  words-front [] us = refl
  words-front (l ∷ ls) us = ap (name_of list l ∷◌) (words-front ls us)

  pub words_are : (ls : List Line) (names : List Span) (n : ℕ) → names ≡ sixteen nowhere (map span_of ls) → n ≡ length ls → words list names n ≡ map (name_of list) ls
  unfolding words sixteen
  words_are ls names n e m = rw (e, m) (words-front ls _)

  entries-front : (ls : List Line) (us : List Span) (ws : List ℕ)
      → up_to (λ i. entry (word_at list (get_or (map span_of ls ++ us) i nowhere)) (get_or (map number_of ls ++ ws) i 0)) (length ls)
      ≡ map (entry_of list) ls
  unfolding up_to entry_of name_of
  entries-front [] us ws = refl
  entries-front (l ∷ ls) us ws = ap (entry_of list l ∷◌) (entries-front ls us ws)

  entries-are : (ls : List Line) → entries_of list (rows_of ls) ≡ map (entry_of list) ls
  unfolding entries_of sixteen
  entries-are ls = entries-front ls _ _

  pub names_of : (r : FieldRows) → map word_of (entries_of list r) ≡ words list r.names r.count
  unfolding entries_of words up_to word_of
  names_of r = go (λ i. word_at list (get_or r.names i nowhere)) (λ i. get_or r.codes i 0) r.count
    where
      go : (g : ℕ → List ℕ) (h : ℕ → ℕ) (n : ℕ) → map word_of (up_to (λ i. entry (g i) (h i)) n) ≡ up_to g n
      go g h zero = refl
      go g h (suc n) = ap (g zero ∷◌) (go (λ i. g (suc i)) (λ i. h (suc i)) n)

  forward : (ls : List Line) (us : List Span) → Placed list ls
      → (i : ℕ) → i < length ls → (get_or (map span_of ls ++ us) i nowhere).from ≤ (get_or (map span_of ls ++ us) i nowhere).to
  forward [] us p i h = absurd (omega arith)
  forward (l ∷ ls) us p zero h = p.0
  forward (l ∷ ls) us p (suc i) h = forward ls us p.4 i (omega arith)

  within : (ls : List Line) (us : List Span) → Placed list ls → (i : ℕ) → i < length ls → (get_or (map span_of ls ++ us) i nowhere).to ≤ length list
  within [] us p i h = absurd (omega arith)
  within (l ∷ ls) us p zero h = p.1
  within (l ∷ ls) us p (suc i) h = within ls us p.4 i (omega arith)

  coded : (ls : List Line) (ws : List ℕ) → Placed list ls
      → (i : ℕ) → i < length ls → (0 < get_or (map number_of ls ++ ws) i 0) × (get_or (map number_of ls ++ ws) i 0 < 65536)
  coded [] ws p i h = absurd (omega arith)
  coded (l ∷ ls) ws p zero h = (p.2, p.3)
  coded (l ∷ ls) ws p (suc i) h = coded ls ws p.4 i (omega arith)

  pub spans-are : (ls : List Line) (names : List Span) (n : ℕ) → names ≡ sixteen nowhere (map span_of ls) → n ≡ length ls → Placed list ls → Spans list names n
  unfolding sixteen
  spans-are ls names n e m p = rw (e, m) (record { forward = forward ls _ p; within = within ls _ p })

pub right-rows : (list : List ℕ) (ls : List Line) → Right list ls → length ls ≤ most_fields → RightRows list (rows_of ls)
unfolding sixteen
right-rows list ls r few =
    record {
      listed = rw (entries-are list ls) r.listed;
      few = few;
      spans = spans-are list ls _ _ refl refl r.placed;
      coded = coded list ls _ r.placed;
      spare = λ i h. (sixteen-spare nowhere span_of ls i h, sixteen-spare 0 number_of ls i h);
    }

pub row-found : (list : List ℕ) (r : FieldRows) (w : List ℕ) {o : Option ℕ} → RightRows list r → length r.names ≡ 16
    → o ≡ position_of w (words list (take r.count r.names) (length (take r.count r.names)))
    → o ≡ position_of w (map word_of (entries_of list r))
row-found list r w right long h =
    let few : r.count ≤ length r.names = omega (arith, right.few) in
    h ∙ ap (position_of w) (words-first list r.names r.count few ∙ sym (names_of list r))
