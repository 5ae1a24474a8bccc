-- What stands at a symbol: two bytes that are one symbol, one byte, or a minus, by the byte after it. Assumes nothing.
use Prim.Native.Nat.{ℕ, suc, ◌+◌, ◌<◌, ◌≤◌}
use mathlib.Core.Path.{◌≡◌, refl, sym, ap, ◌∙◌}
use mathlib.Core.Bool.{Bool, true, false, cond, ◌&&◌}
use mathlib.Core.Option.{Option, none, some}
use mathlib.Core.List.{List, [], ◌∷◌}
use native.Mathlib.Omega.{arith}
use native.Mathlib.Numerals.{add-one}
use native.Mathlib.Decide.{ℕ_discrete, dec_lt}
use lib.Dec.{eqb, leb}
use lib.ListN.{length, get_or, take, drop, drop_of_length-le, get_or-eq_default}
use lib.Seq.{drop-cons}
use borrow.Author.Tests.{ne_eqb}
use Rattle.grammar.specs.Classes.{no_class, blank, upper, lower, digit, symbol, blanks, symbols, among, class_of, is_letter, is_digit}
use Rattle.grammar.specs.Tokens.{single, double, same_word, spelled}
use Rattle.grammar.specs.Places.{marked, Spot, spot, Spelled, a-symbol, a_pair, a-sign, a-minus, begins, present, paired}
use Rattle.letters.specs.Kinds.{or_else, minus_kind, symbol_kind, symbol_width}
use Rattle.letters.specs.Pieces.{piece_end, piece_kind}
use Rattle.letters.specs.Says.{Stands}
use Rattle.letters.proofs.TableLaws.{single-fine, double-fine, a-mark}
use Rattle.letters.proofs.PieceLaws.{Spells, spells, stands, mark-piece}

-- ---- the byte after a symbol; past the end it is 0, which passes no test

begins-get : (p : ℕ → Bool) (s : List ℕ) (i : ℕ) → p 0 ≡ false → begins p (drop i s) ≡ p (get_or s i 0)
unfolding begins
begins-get p s i z = go (dec_lt i (length s))
  where
    go : Dec (i < length s) → begins p (drop i s) ≡ p (get_or s i 0)
    go (yes h) = rw (drop-cons s i 0 h)
    go (no n) = let h : length s ≤ i = omega arith in rw (drop_of_length-le s h, get_or-eq_default s 0 h) (sym z)

paired-zero : (b : ℕ) → paired b 0 ≡ false
unfolding paired present spelled same_word double
paired-zero b = go (eqb b 124) (eqb b 61)
  where
    go : (t u : Bool) → present (cond (t && false) (some 22) (cond (u && false) (some 25) none)) ≡ false
    go true true = refl
    go true false = refl
    go false true = refl
    go false false = refl

digit-zero : is_digit 0 ≡ false
unfolding is_digit class_of among blanks symbols
digit-zero = refl

-- ---- a symbol that is in no table is the minus

not-this : (b j k : ℕ) → spelled (j ∷ []) single ≡ some k → spelled (b ∷ []) single ≡ none → b ≡ j → ⊥
not-this b j k e f g =
    let h : spelled (j ∷ []) single ≡ none = rw g at f in
    let z : ◌≡◌ {A = ℕ} 0 1 = cc in omega arith

is-minus : (b : ℕ) → class_of b ≡ symbol → spelled (b ∷ []) single ≡ none → b ≡ 45
unfolding class_of among symbols spelled same_word single
is-minus b c f = go (ℕ_discrete b 45)
  where
    no-class : (t u v w : Bool) → cond t blank (cond u upper (cond v lower (cond w digit no_class))) ≡ symbol → ⊥
    no-class true u v w e = omega arith
    no-class false true v w e = omega arith
    no-class false false true w e = omega arith
    no-class false false false true e = omega arith
    no-class false false false false e = omega arith

    go : Dec (b ≡ 45) → b ≡ 45
    go (yes e) = e
    go (no n) =
        absurd
        (no-class (among b blanks) (leb 65 b && leb b 90) (leb 97 b && leb b 122) (leb 48 b && leb b 57)
        (rw (
          ne_eqb b 40 (not-this b 40 17 refl f),
          ne_eqb b 41 (not-this b 41 18 refl f),
          ne_eqb b 45 n,
          ne_eqb b 46 (not-this b 46 23 refl f),
          ne_eqb b 58 (not-this b 58 27 refl f),
          ne_eqb b 59 (not-this b 59 21 refl f),
          ne_eqb b 60 (not-this b 60 26 refl f),
          ne_eqb b 61 (not-this b 61 24 refl f),
          ne_eqb b 123 (not-this b 123 19 refl f),
          ne_eqb b 124 (not-this b 124 28 refl f),
          ne_eqb b 125 (not-this b 125 20 refl f),
        )
        at c))

-- ---- the three forms

module _ (s : List ℕ) (at line : ℕ) (h : at < length s) (is : class_of (get_or s at 0) ≡ symbol) where
  one_byte : (k : ℕ) → 4 ≤ k → k ≤ 28
      → ((ps : List Spot) → Spelled (drop (suc at) s) line ps → Spelled (get_or s at 0 ∷ drop (suc at) s) line (spot line (marked k) ∷ ps))
      → Spells s at line k (at + 1)
  one_byte k l m f =
      spells s at 0 (at + 1) h (omega arith) (omega arith) k line (omega arith) (omega arith)
      (λ ps q. rw (mark-piece k (get_or s at 0 ∷ []) l m, add-one at) (f ps (rw (add-one at) at q)))

  two_bytes : (k : ℕ) → at + 1 < length s → spelled (get_or s at 0 ∷ get_or s (at + 1) 0 ∷ []) double ≡ some k → Spells s at line k (at + 2)
  two_bytes k l e =
      let c = get_or s (at + 1) 0 in
      let r = a-mark (get_or s at 0 ∷ c ∷ []) k double double-fine e in
      let one : take 1 (drop (suc at) s) ≡ c ∷ [] = rw (← add-one at, drop-cons s (at + 1) 0 l) in
      spells s at 1 (at + 2) h (omega arith) (omega arith) k line (omega (arith, r.0)) (omega (arith, r.1))
      (λ ps q. rw (one, mark-piece k (get_or s at 0 ∷ c ∷ []) r.0 r.1) (a_pair e q))

  -- the second byte of a pair is a byte of the text
  there : (c j : ℕ) → c ≡ get_or s (at + 1) 0 → spelled (get_or s at 0 ∷ c ∷ []) double ≡ some j → at + 1 < length s
  unfolding paired present
  there c j e f = go (dec_lt (at + 1) (length s))
    where
      go : Dec (at + 1 < length s) → at + 1 < length s
      go (yes l) = l
      go (no n) =
          let l : length s ≤ at + 1 = omega arith in
          let zero-there : c ≡ 0 = e ∙ get_or-eq_default s 0 l in
          let pair : paired (get_or s at 0) 0 ≡ true = ap (paired (get_or s at 0)) (sym zero-there) ∙ ap present f in
          let none_is : paired (get_or s at 0) 0 ≡ false = paired-zero (get_or s at 0) in
          let z : ◌≡◌ {A = ℕ} 0 1 = cc in absurd (omega arith)

  -- no pair: nothing that follows would make one
  alone : (c : ℕ) → c ≡ get_or s (at + 1) 0 → spelled (get_or s at 0 ∷ c ∷ []) double ≡ none → begins (paired (get_or s at 0)) (drop (suc at) s) ≡ false
  unfolding paired present
  alone c e f =
      let z : paired (get_or s at 0) (get_or s (at + 1) 0) ≡ false = rw (← e, f) in
      rw (← add-one at) (begins-get (paired (get_or s at 0)) s (at + 1) (paired-zero (get_or s at 0)) ∙ z)

  minus-byte : (c : ℕ) → c ≡ get_or s (at + 1) 0 → get_or s at 0 ≡ 45 → Spells s at line (minus_kind c) (at + 1)
  unfolding minus_kind
  minus-byte c e m = go (is_digit c) refl
    where
      next : begins is_digit (drop (suc at) s) ≡ is_digit c
      next = rw (← add-one at, e) (begins-get is_digit s (at + 1) digit-zero)

      go : (t : Bool) → is_digit c ≡ t → Spells s at line (cond t 4 5) (at + 1)
      go true f = one_byte 4 (omega arith) (omega arith) (λ ps q. rw m (a-sign (next ∙ f) q))
      go false f = one_byte 5 (omega arith) (omega arith) (λ ps q. rw m (a-minus (next ∙ f) q))

  single-byte : (c : ℕ) → c ≡ get_or s (at + 1) 0 → spelled (get_or s at 0 ∷ c ∷ []) double ≡ none
      → Spells s at line (or_else (spelled (get_or s at 0 ∷ []) single) (minus_kind c)) (at + 1)
  unfolding or_else
  single-byte c e f = go (spelled (get_or s at 0 ∷ []) single) refl
    where
      go : (o : Option ℕ) → spelled (get_or s at 0 ∷ []) single ≡ o
          → Spells s at line (or_else o (minus_kind c)) (at + 1)
      go none g = minus-byte c e (is-minus (get_or s at 0) is g)
      go (some k) g =
          let r = a-mark (get_or s at 0 ∷ []) k single single-fine g in
          one_byte k r.0 r.1 (λ ps q. a-symbol g (alone c e f) q)

  symbol-spells : (c : ℕ) → c ≡ get_or s (at + 1) 0 → Spells s at line (symbol_kind (get_or s at 0) c) (at + symbol_width (get_or s at 0) c)
  unfolding symbol_kind or_else symbol_width paired present
  symbol-spells c e = go (spelled (get_or s at 0 ∷ c ∷ []) double) refl
    where
      go : (o : Option ℕ) → spelled (get_or s at 0 ∷ c ∷ []) double ≡ o
          → Spells s at line (or_else o (or_else (spelled (get_or s at 0 ∷ []) single) (minus_kind c))) (at + cond (present o) 2 1)
      go none d = single-byte c e d
      go (some j) d = two_bytes j (there c j e d) (rw e at d)

  pub symbol-stands : (k c w : ℕ) → c ≡ get_or s (at + 1) 0 → k ≡ symbol_kind (get_or s at 0) c → w ≡ symbol_width (get_or s at 0) c
      → Stands s at line (record { kind = k; from = at; to = at + w; line = line })
  unfolding is_letter is_digit piece_end piece_kind
  symbol-stands k c w e f g =
      stands s at line k (at + w) (rw (f, g) (symbol-spells c e)) (rw (is, g, e)) (rw (is, f, e))
