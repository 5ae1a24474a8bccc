-- What stands at a byte that is no blank: a word, a number or a bad byte. Assumes nothing.
use Prim.Native.Nat.{ℕ, suc, ◌+◌, ◌-◌, ◌<◌, ◌≤◌}
use mathlib.Core.Path.{◌≡◌, refl, sym, ap, ◌∙◌}
use mathlib.Core.Bool.{Bool, true, false, cond, ◌&&◌}
use mathlib.Core.Option.{Option, none, some}
use mathlib.Core.List.{List, ◌∷◌, ◌++◌}
use native.Mathlib.Omega.{arith}
use native.Mathlib.Numerals.{add-one}
use lib.Dec.{leb}
use lib.ListN.{length, get_or, take, drop, take-append-drop}
use lib.Seq.{slice, slice-cons, drop-cons, drop-drop, take-add, drop_at, length-take-le}
use borrow.Author.Tests.{ne_eqb}
use Rattle.grammar.specs.Classes.{no_class, blank, upper, lower, digit, symbol, blanks, symbols, among, class_of, is_letter, is_digit, in_word}
use Rattle.grammar.specs.Tokens.{reserved, spelled}
use Rattle.grammar.specs.Places.{marked, Spot, spot, Spelled, a_word, a-number, a-bad-byte, lower_or, word_piece, begins}
use Rattle.letters.specs.Kinds.{kind_or, word_kind}
use Rattle.letters.specs.Runs.{run}
use Rattle.letters.specs.Pieces.{piece_end, piece_kind}
use Rattle.letters.specs.Says.{piece_by, Stands}
use Rattle.letters.proofs.RunLaws.{Ran, ran}
use Rattle.letters.proofs.TableLaws.{reserved-fine, a-mark}

-- a piece of this kind from one byte up to another
pub record Spells (s : List ℕ) (at line k to : ℕ) : Type 0 where
  pub not-empty : at < to
  pub within : to ≤ length s
  pub a-kind : 0 < k
  pub known : k ≤ 29
  pub spelled : (ps : List Spot) → Spelled (drop to s) line ps → Spelled (drop at s) line (spot line (piece_by k (slice at to s)) ∷ ps)

-- ---- the bytes of a piece

slice-run : (s : List ℕ) (a n : ℕ) → a ≤ length s → slice a (a + n) s ≡ take n (drop a s)
slice-run s a n h = ap (drop a) (take-add a n s) ∙ drop_at (take a s) (take n (drop a s)) a (length-take-le a s h)

module _ (s : List ℕ) (at n to : ℕ) (h : at < length s) (e : to ≡ at + 1 + n) (l : to ≤ length s) where
  pub cut-slice : slice at to s ≡ get_or s at 0 ∷ take n (drop (suc at) s)
  cut-slice =
      let f : to ≡ suc at + n = omega arith in
      slice-cons at to s 0 (omega arith) l ∙ rw (f, slice-run s (suc at) n h)

  pub cut-rest : drop n (drop (suc at) s) ≡ drop to s
  cut-rest = let f : to ≡ suc at + n = omega arith in rw f (drop-drop n (suc at) s)

  pub cut-whole : drop at s ≡ get_or s at 0 ∷ (take n (drop (suc at) s) ++ drop to s)
  cut-whole = drop-cons s at 0 h ∙ rw (← cut-rest, take-append-drop n (drop (suc at) s))

  pub spells : (k line : ℕ) → 0 < k → k ≤ 29
      → ((ps : List Spot) → Spelled (drop to s) line ps
      → Spelled (get_or s at 0 ∷ (take n (drop (suc at) s) ++ drop to s)) line (spot line (piece_by k (get_or s at 0 ∷ take n (drop (suc at) s))) ∷ ps))
      → Spells s at line k to
  spells k line a b f =
      record { not-empty = omega arith; within = l; a-kind = a; known = b; spelled = λ ps q. rw (cut-slice, cut-whole) (f ps q) }

pub stands : (s : List ℕ) (at line k to : ℕ) → Spells s at line k to → to ≡ piece_end s at → k ≡ piece_kind s at to
    → Stands s at line (record { kind = k; from = at; to = to; line = line })
stands s at line k to p e f =
    record {
      is-from = refl;
      is-to = e;
      is-kind = f;
      is-line = refl;
      not-empty = p.not-empty;
      within = p.within;
      a-kind = p.a-kind;
      known = p.known;
      spelled = p.spelled;
    }

-- ---- what a kind says

pub mark-piece : (k : ℕ) (w : List ℕ) → 4 ≤ k → k ≤ 28 → piece_by k w ≡ marked k
unfolding piece_by
mark-piece k w l h =
    rw
    (ne_eqb k 1 (λ e. omega arith), ne_eqb k 2 (λ e. omega arith), ne_eqb k 3 (λ e. omega arith), ne_eqb k 29 (λ e. omega arith))

upper-piece : (b : ℕ) (w : List ℕ) → class_of b ≡ upper → word_piece b w ≡ piece_by 1 (b ∷ w)
unfolding word_piece piece_by
upper-piece b w e = rw e

lower-piece : (b : ℕ) (w : List ℕ) → class_of b ≡ lower → word_piece b w ≡ piece_by (word_kind (b ∷ w)) (b ∷ w)
unfolding word_piece word_kind piece_by lower_or kind_or
lower-piece b w e = rw e (go (spelled (b ∷ w) reserved) refl)
  where
    go : (o : Option ℕ) → spelled (b ∷ w) reserved ≡ o → lower_or o (b ∷ w) ≡ piece_by (kind_or o) (b ∷ w)
    go none f = refl
    go (some k) f = let r = a-mark (b ∷ w) k reserved reserved-fine f in sym (mark-piece k (b ∷ w) r.0 r.1)

word-known : (w : List ℕ) → (1 ≤ word_kind w) × (word_kind w ≤ 28)
unfolding word_kind kind_or
word-known w = go (spelled w reserved) refl
  where
    go : (o : Option ℕ) → spelled w reserved ≡ o → (1 ≤ kind_or o) × (kind_or o ≤ 28)
    go none f = (omega arith, omega arith)
    go (some k) f = let r = a-mark w k reserved reserved-fine f in (omega (arith, r.0), r.1)

-- ---- a word

module _ (s : List ℕ) (at line to : ℕ) (h : at < length s) where
  -- a letter and what runs on from it is one word
  word : (k : ℕ) → is_letter (get_or s at 0) ≡ true → to ≡ at + 1 + run in_word (drop (at + 1) s) → to ≤ length s → 0 < k → k ≤ 29
      → word_piece (get_or s at 0) (take (run in_word (drop (at + 1) s)) (drop (suc at) s))
      ≡ piece_by k (get_or s at 0 ∷ take (run in_word (drop (at + 1) s)) (drop (suc at) s))
      → Spells s at line k to
  word k i e l a b f =
      let n = run in_word (drop (at + 1) s) in
      let r : Ran in_word (drop (suc at) s) n = rw (← add-one at) (ran in_word (drop (at + 1) s)) in
      let over : begins in_word (drop to s) ≡ false = rw (← cut-rest s at n to h e l) r.stops in
      spells s at n to h e l k line a b (λ ps q. rw (← f) (a_word (take n (drop (suc at) s)) i r.passes over q))

  pub name-stands : class_of (get_or s at 0) ≡ upper → to ≡ at + 1 + run in_word (drop (at + 1) s) → to ≤ length s
      → Stands s at line (record { kind = 1; from = at; to = to; line = line })
  unfolding is_letter piece_end piece_kind
  name-stands c e l =
      stands s at line 1 to
      (word 1 (rw c) e l (omega arith) (omega arith) (upper-piece (get_or s at 0) (take (run in_word (drop (at + 1) s)) (drop (suc at) s)) c))
      (rw c e)
      (rw c)

  pub lower-stands : (k : ℕ) → class_of (get_or s at 0) ≡ lower → to ≡ at + 1 + run in_word (drop (at + 1) s) → to ≤ length s
      → k ≡ word_kind (slice at to s)
      → Stands s at line (record { kind = k; from = at; to = to; line = line })
  unfolding is_letter piece_end piece_kind
  lower-stands k c e l f =
      let n = run in_word (drop (at + 1) s) in
      let g : k ≡ word_kind (get_or s at 0 ∷ take n (drop (suc at) s)) = rw (cut-slice s at n to h e l) at f in
      let r = word-known (get_or s at 0 ∷ take n (drop (suc at) s)) in
      stands s at line k to
      (word k (rw c) e l (omega (arith, r.0)) (omega (arith, r.1)) (rw g (lower-piece (get_or s at 0) (take n (drop (suc at) s)) c)))
      (rw c e)
      (rw c f)

  pub lower-stands-so : (k j : ℕ) → class_of (get_or s at 0) ≡ lower → to ≡ at + 1 + run in_word (drop (at + 1) s) → to ≤ length s
      → k ≡ j → j ≡ word_kind (take (to - at) (drop at s))
      → Stands s at line (record { kind = k; from = at; to = to; line = line })
  lower-stands-so k j c e l i f =
      let n : at + (to - at) ≡ to = omega arith in
      let part : slice at to s ≡ take (to - at) (drop at s) = rw n at (slice-run s at (to - at) (omega arith)) in
      lower-stands k c e l (i ∙ f ∙ ap word_kind (sym part))

  -- ---- a number

  pub number-stands : class_of (get_or s at 0) ≡ digit → to ≡ at + 1 + run is_digit (drop (at + 1) s) → to ≤ length s
      → Stands s at line (record { kind = 3; from = at; to = to; line = line })
  unfolding is_letter is_digit piece_by piece_end piece_kind
  number-stands c e l =
      let n = run is_digit (drop (at + 1) s) in
      let r : Ran is_digit (drop (suc at) s) n = rw (← add-one at) (ran is_digit (drop (at + 1) s)) in
      let first : is_digit (get_or s at 0) ≡ true = rw c in
      let over : begins is_digit (drop to s) ≡ false = rw (← cut-rest s at n to h e l) r.stops in
      stands s at line 3 to
      (spells s at n to h e l 3 line (omega arith) (omega arith) (λ ps q. a-number (take n (drop (suc at) s)) first r.passes over q))
      (rw c e)
      (rw c)

-- ---- a bad byte

class-most : (b : ℕ) → class_of b ≤ 5
unfolding class_of
class-most b =
    go (among b blanks) (leb 65 b && leb b 90) (leb 97 b && leb b 122) (leb 48 b && leb b 57) (among b symbols)
  where
    go : (t u v w x : Bool) → cond t blank (cond u upper (cond v lower (cond w digit (cond x symbol no_class)))) ≤ 5
    go true u v w x = omega arith
    go false true v w x = omega arith
    go false false true w x = omega arith
    go false false false true x = omega arith
    go false false false false true = omega arith
    go false false false false false = omega arith

pub bad-stands : (s : List ℕ) (at line k : ℕ) → at < length s → k ≡ class_of (get_or s at 0) → (class_of (get_or s at 0) ≡ blank → ⊥)
    → (k ≡ 2 → ⊥) → (k ≡ 3 → ⊥) → (k ≡ 4 → ⊥) → (k ≡ 5 → ⊥)
    → Stands s at line (record { kind = 29; from = at; to = at + 1; line = line })
unfolding is_letter is_digit piece_by piece_end piece_kind
bad-stands s at line k h e n u v w x =
    let none : class_of (get_or s at 0) ≡ no_class = omega (arith, class-most (get_or s at 0), n) in
    stands s at line 29 (at + 1)
    (spells s at 0 (at + 1) h (omega arith) (omega arith) 29 line (omega arith) (omega arith) (λ ps q. a-bad-byte none q))
    (rw none)
    (rw none)
