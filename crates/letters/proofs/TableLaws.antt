-- The tables of spellings, by one test that is computed over their rows: words are bytes, six at most, and kinds are those of marks.
-- A word's number stands for the word in such a table. Assumes nothing.
use Prim.Native.Nat.{ℕ, suc, ◌+◌, ◌*◌, ◌<◌, ◌≤◌}
use mathlib.Core.Path.{◌≡◌, refl, sym, ap}
use mathlib.Core.Bool.{Bool, true, false, cond, ◌&&◌}
use mathlib.Core.Option.{none, some}
use mathlib.Core.List.{List, [], ◌∷◌}
use native.Mathlib.Omega.{arith}
use lib.Dec.{eqb, leb, ltb}
use lib.ListN.{length}
use borrow.Author.Tests.{eq-eqb, ne_eqb, eqb-true, eqb-false, leb-true, ltb-true}
use Rattle.laws.specs.Bools.{and_both}
use Rattle.grammar.specs.Tokens.{Spelling, spelling, reserved, single, double, same_word, spelled}
use Rattle.letters.specs.Kinds.{packed, Bytes, numbered}

-- ---- the test

unfoldable pub byte_word : List ℕ → Bool
byte_word [] = true
byte_word (b ∷ w) = ltb b 256 && byte_word w

unfoldable pub fine : List Spelling → Bool
fine [] = true
fine (spelling v k ∷ t) = byte_word v && (leb (length v) 6 && (leb 4 k && leb k 28)) && fine t

pub reserved-fine : fine reserved ≡ true
unfolding fine byte_word reserved
reserved-fine = refl

pub single-fine : fine single ≡ true
unfolding fine byte_word single
single-fine = refl

pub double-fine : fine double ≡ true
unfolding fine byte_word double
double-fine = refl

bytes_of : (w : List ℕ) → byte_word w ≡ true → Bytes w
unfolding byte_word
bytes_of [] e = tt
bytes_of (b ∷ w) e = let r = and_both (ltb b 256) (byte_word w) e in (ltb-true b 256 r.0, bytes_of w r.1)

record Row (v : List ℕ) (k : ℕ) (t : List Spelling) : Type 0 where
  bytes : Bytes v
  short : length v ≤ 6
  from : 4 ≤ k
  up_to : k ≤ 28
  rest : fine t ≡ true

row : (v : List ℕ) (k : ℕ) (t : List Spelling) → fine (spelling v k ∷ t) ≡ true → Row v k t
unfolding fine
row v k t e =
    let a = and_both (byte_word v && (leb (length v) 6 && (leb 4 k && leb k 28))) (fine t) e in
    let b = and_both (byte_word v) (leb (length v) 6 && (leb 4 k && leb k 28)) a.0 in
    let c = and_both (leb (length v) 6) (leb 4 k && leb k 28) b.1 in
    let d = and_both (leb 4 k) (leb k 28) c.1 in
    record {
      bytes = bytes_of v b.0;
      short = leb-true (length v) 6 c.0;
      from = leb-true 4 k d.0;
      up_to = leb-true k 28 d.1;
      rest = a.1;
    }

-- ---- words and their numbers

packed-some : (w : List ℕ) → 1 ≤ packed w
unfolding packed
packed-some [] = omega arith
packed-some (b ∷ w) = omega (arith, packed-some w)

same_number : (w v : List ℕ) → Bytes w → Bytes v → same_word w v ≡ eqb (packed w) (packed v)
unfolding packed same_word
same_number [] [] hw hv = refl
same_number [] (c ∷ v) hw hv = sym (ne_eqb 1 (c + 256 * packed v) (λ e. omega (arith, packed-some v)))
same_number (b ∷ w) [] hw hv = sym (ne_eqb (b + 256 * packed w) 1 (λ e. omega (arith, packed-some w)))
same_number (b ∷ w) (c ∷ v) hw hv =
    rw (same_number w v hw.1 hv.1) (go (eqb b c) refl (eqb (packed w) (packed v)) refl)
  where
    go : (t : Bool) → eqb b c ≡ t → (u : Bool) → eqb (packed w) (packed v) ≡ u → (t && u) ≡ eqb (b + 256 * packed w) (c + 256 * packed v)
    go true p true q =
        sym (eq-eqb (b + 256 * packed w) (c + 256 * packed v) (omega (arith, eqb-true b c p, eqb-true (packed w) (packed v) q)))
    go true p false q =
        sym (ne_eqb (b + 256 * packed w) (c + 256 * packed v) (λ e. eqb-false (packed w) (packed v) q (omega (arith, eqb-true b c p))))
    go false p u q =
        sym (ne_eqb (b + 256 * packed w) (c + 256 * packed v) (λ e. eqb-false b c p (omega (arith, hw.0, hv.0))))

same_length : (w v : List ℕ) → same_word w v ≡ true → length w ≡ length v
unfolding same_word
same_length [] [] e = refl
same_length [] (c ∷ v) e = let z : ◌≡◌ {A = ℕ} 0 1 = cc in absurd (omega arith)
same_length (b ∷ w) [] e = let z : ◌≡◌ {A = ℕ} 0 1 = cc in absurd (omega arith)
same_length (b ∷ w) (c ∷ v) e = ap suc (same_length w v (and_both (eqb b c) (same_word w v) e).1)

-- ---- a table, asked

pub by_number : (w : List ℕ) → Bytes w → (t : List Spelling) → fine t ≡ true → spelled w t ≡ numbered (packed w) t
unfolding spelled numbered
by_number w h [] e = refl
by_number w h (spelling v k ∷ t) e =
    let r = row v k t e in rw (same_number w v h r.bytes, by_number w h t r.rest)

pub not-long : (w : List ℕ) → 6 < length w → (t : List Spelling) → fine t ≡ true → spelled w t ≡ none
unfolding spelled
not-long w h [] e = refl
not-long w h (spelling v k ∷ t) e = go (same_word w v) refl (not-long w h t (row v k t e).rest)
  where
    go : (s : Bool) → same_word w v ≡ s → spelled w t ≡ none → cond s (some k) (spelled w t) ≡ none
    go true p q = absurd (omega (arith, same_length w v p, (row v k t e).short))
    go false p q = q

pub a-mark : (w : List ℕ) (j : ℕ) (t : List Spelling) → fine t ≡ true → spelled w t ≡ some j → (4 ≤ j) × (j ≤ 28)
unfolding spelled
a-mark w j [] e f = let z : ◌≡◌ {A = ℕ} 0 1 = cc in absurd (omega arith)
a-mark w j (spelling v k ∷ t) e f = go (same_word w v) f (λ q. a-mark w j t (row v k t e).rest q)
  where
    go : (s : Bool) → cond s (some k) (spelled w t) ≡ some j → (spelled w t ≡ some j → (4 ≤ j) × (j ≤ 28)) → (4 ≤ j) × (j ≤ 28)
    go true q next = let i : k ≡ j = cc in let r = row v k t e in (omega (arith, r.from), omega (arith, r.up_to))
    go false q next = next q
