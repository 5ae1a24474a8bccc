-- The kind of a word, packed byte by byte from its end, and the kind and the width of a symbol: one law for each answer of the code.
-- Assumes nothing.
use Prim.Native.Nat.{ℕ, zero, suc, ◌+◌, ◌*◌, ◌-◌, ◌^◌, ◌<◌, ◌≤◌}
use mathlib.Core.Path.{◌≡◌, refl, ◌∙◌}
use mathlib.Core.Bool.{Bool, true, false, cond, ◌&&◌}
use mathlib.Core.Option.{none, some}
use mathlib.Core.List.{List, [], ◌∷◌}
use native.Mathlib.Omega.{arith}
use native.Mathlib.Nat.{pow-suc}
use lib.Dec.{eqb}
use lib.ListN.{length, get_or, drop, drop_of_length-le}
use lib.Seq.{drop-cons}
use borrow.Author.Tests.{eq-eqb, ne_eqb, eqb-true}
use Rattle.grammar.specs.Classes.{class_of, is_digit}
use Rattle.grammar.specs.Tokens.{reserved, single, double, same_word, spelled}
use Rattle.grammar.specs.Places.{present, paired}
use Rattle.letters.specs.Kinds.{kind_or, word_kind, or_else, minus_kind, symbol_kind, symbol_width, packed, Bytes, numbered}
use Rattle.letters.proofs.TableLaws.{reserved-fine, by_number, not-long}

-- ---- a word is packed

pub record Packing (w : List ℕ) (i n : ℕ) : Type 0 where
  pub not-above : i ≤ length w
  pub is : n ≡ packed (drop i w)
  pub bytes : Bytes (drop i w)
  pub small : n < 2 * 256 ^ (length w - i)

pub packs-none : {w : List ℕ} → Packing w (length w) 1
unfolding packed
packs-none {w} =
    let e : drop (length w) w ≡ [] = drop_of_length-le w (omega arith) in
    let z : length w - length w ≡ 0 = omega arith in
    record { not-above = omega arith; is = rw e; bytes = rw e tt; small = rw z (omega arith) }

few : (n j : ℕ) → n < 2 * 256 ^ j → j ≤ 5 → n < 2199023255552
few n zero h l = omega arith
few n (suc zero) h l = omega arith
few n (suc (suc zero)) h l = omega arith
few n (suc (suc (suc zero))) h l = omega arith
few n (suc (suc (suc (suc zero)))) h l = omega arith
few n (suc (suc (suc (suc (suc zero))))) h l = omega arith
few n (suc (suc (suc (suc (suc (suc j)))))) h l = absurd (omega arith)

module _ {w : List ℕ} {i n : ℕ} (p : Packing w i n) where
  pub packs-few : 0 < i → length w ≤ 6 → n < 2199023255552
  packs-few h m = few n (length w - i) p.small (omega (arith, p.not-above))

  pub packs-on : {b : ℕ} → 0 < i → b ≡ get_or w (i - 1) 0 → b < 256 → Packing w (i - 1) (n * 256 + b)
  unfolding packed
  packs-on {b} h e f =
      let a = p.not-above in
      let one : suc (i - 1) ≡ i = omega arith in
      let more : drop (i - 1) w ≡ b ∷ drop i w = drop-cons w (i - 1) 0 (omega arith) ∙ rw (one, ← e) in
      let next : length w - (i - 1) ≡ suc (length w - i) = omega arith in
      record {
        not-above = omega arith;
        is = rw more (omega (arith, p.is));
        bytes = rw more (f, p.bytes);
        small = rw (next, pow-suc 256 (length w - i)) (omega (arith, p.small));
      }

  pub packs-all : i ≤ 0 → (n ≡ packed w) × Bytes w
  packs-all h = let e : i ≡ 0 = omega arith in (rw e at p.is, rw e at p.bytes)

-- ---- the kind of a word

pub long-kind : (w : List ℕ) → 6 < length w → 2 ≡ word_kind w
unfolding word_kind kind_or
long-kind w h = rw (not-long w h reserved reserved-fine)

pub short-kind : (w : List ℕ) (n r : ℕ) → n ≡ packed w → Bytes w → r ≡ kind_or (numbered n reserved) → r ≡ word_kind w
unfolding word_kind
short-kind w n r e b f = f ∙ rw (e, by_number w b reserved reserved-fine)

-- none of the twelve numbers
pub not-reserved : (n : ℕ)
    → (n ≡ 6114014574 → ⊥)
    → (n ≡ 5963215472 → ⊥)
    → (n ≡ 5997163124 → ⊥)
    → (n ≡ 1535239807334 → ⊥)
    → (n ≡ 24273270 → ⊥)
    → (n ≡ 390805188272493 → ⊥)
    → (n ≡ 6180924275 → ⊥)
    → (n ≡ 1535122172023 → ⊥)
    → (n ≡ 91753 → ⊥)
    → (n ≡ 5997030501 → ⊥)
    → (n ≡ 6130988129 → ⊥)
    → (n ≡ 23880054 → ⊥)
    → 2 ≡ kind_or (numbered n reserved)
unfolding kind_or numbered packed reserved
not-reserved n e1 e2 e3 e4 e5 e6 e7 e8 e9 e10 e11 e12 =
    rw
    (ne_eqb n 6114014574 e1, ne_eqb n 5963215472 e2, ne_eqb n 5997163124 e3, ne_eqb n 1535239807334 e4, ne_eqb n 24273270 e5, ne_eqb n 390805188272493 e6, ne_eqb n 6180924275 e7, ne_eqb n 1535122172023 e8, ne_eqb n 91753 e9, ne_eqb n 5997030501 e10, ne_eqb n 6130988129 e11, ne_eqb n 23880054 e12)

pub ruleset word_lemmas = (not-reserved)

-- ---- a symbol

pub a-sign-kind : (c k : ℕ) → k ≡ class_of c → k ≡ 4 → 4 ≡ minus_kind c
unfolding minus_kind is_digit
a-sign-kind c k e f = rw (← e, eq-eqb k 4 f)

pub a-minus-kind : (c k : ℕ) → k ≡ class_of c → (k ≡ 4 → ⊥) → 5 ≡ minus_kind c
unfolding minus_kind is_digit
a-minus-kind c k e f = rw (← e, ne_eqb k 4 f)

pub ruleset minus_lemmas = (a-sign-kind, a-minus-kind)

module _ (b c : ℕ) where
  pub equals-kind : b ≡ 61 → c ≡ 61 → 25 ≡ symbol_kind b c
  unfolding symbol_kind or_else spelled same_word single double
  equals-kind e f = rw (e, f)

  pub becomes-kind : b ≡ 61 → (c ≡ 61 → ⊥) → 24 ≡ symbol_kind b c
  unfolding symbol_kind or_else spelled same_word single double
  becomes-kind e n = rw (e, ne_eqb c 61 n)

  pub bars-kind : b ≡ 124 → c ≡ 124 → 22 ≡ symbol_kind b c
  unfolding symbol_kind or_else spelled same_word single double
  bars-kind e f = rw (e, f)

  pub bar-kind : b ≡ 124 → (c ≡ 124 → ⊥) → 28 ≡ symbol_kind b c
  unfolding symbol_kind or_else spelled same_word single double
  bar-kind e n = rw (e, ne_eqb c 124 n)

  pub minus-kind : (r : ℕ) → (b ≡ 40 → ⊥) → (b ≡ 41 → ⊥) → (b ≡ 123 → ⊥) → (b ≡ 125 → ⊥) → (b ≡ 59 → ⊥) → (b ≡ 46 → ⊥) → (b ≡ 60 → ⊥) → (b ≡ 58 → ⊥) → (b ≡ 61 → ⊥) → (b ≡ 124 → ⊥) → r ≡ minus_kind c → r ≡ symbol_kind b c
  unfolding symbol_kind or_else spelled same_word single double
  minus-kind r e1 e2 e3 e4 e5 e6 e7 e8 e9 e10 f =
      f
      ∙ rw
      (ne_eqb b 124 e10, ne_eqb b 61 e9, ne_eqb b 40 e1, ne_eqb b 41 e2, ne_eqb b 123 e3, ne_eqb b 125 e4, ne_eqb b 59 e5, ne_eqb b 46 e6, ne_eqb b 60 e7, ne_eqb b 58 e8)

pub ruleset symbol_lemmas = (equals-kind, becomes-kind, bars-kind, bar-kind, minus-kind)

-- ---- its width

module _ (b c : ℕ) where
  pub other_width : (c ≡ b → ⊥) → 1 ≡ symbol_width b c
  unfolding symbol_width paired present spelled same_word double
  other_width n = go (eqb b 124) refl (eqb c 124) refl (eqb b 61) refl (eqb c 61) refl
    where
      go : (t : Bool) → eqb b 124 ≡ t → (u : Bool) → eqb c 124 ≡ u → (v : Bool) → eqb b 61 ≡ v → (w : Bool) → eqb c 61 ≡ w
          → ◌≡◌ {A = ℕ} 1 (cond (present (cond (t && (u && true)) (some 22) (cond (v && (w && true)) (some 25) none))) 2 1)
      go true p true q v x w y = absurd (n (omega (arith, eqb-true b 124 p, eqb-true c 124 q)))
      go true p false q true x true y = absurd (n (omega (arith, eqb-true b 61 x, eqb-true c 61 y)))
      go true p false q true x false y = refl
      go true p false q false x w y = refl
      go false p u q true x true y = absurd (n (omega (arith, eqb-true b 61 x, eqb-true c 61 y)))
      go false p u q true x false y = refl
      go false p u q false x w y = refl

  pub equals-width : c ≡ b → b ≡ 61 → 2 ≡ symbol_width b c
  unfolding symbol_width paired present spelled same_word double
  equals-width e f = rw (e, f)

  pub bars-width : c ≡ b → b ≡ 124 → 2 ≡ symbol_width b c
  unfolding symbol_width paired present spelled same_word double
  bars-width e f = rw (e, f)

  pub plain-width : (b ≡ 61 → ⊥) → (b ≡ 124 → ⊥) → 1 ≡ symbol_width b c
  unfolding symbol_width paired present spelled same_word double
  plain-width n m = rw (ne_eqb b 124 m, ne_eqb b 61 n)

pub ruleset width_lemmas = (other_width, equals-width, bars-width, plain-width)
