-- What the answers of the table are made of: a node that comes out, and one thing more that is due. Assumes nothing.
use Prim.Native.Nat.{ℕ, ◌+◌, ◌-◌, ◌<◌, ◌≤◌}
use mathlib.Core.Path.{◌≡◌, refl}
use mathlib.Core.Bool.{Bool, true, false, cond}
use mathlib.Core.List.{[], ◌∷◌}
use native.Mathlib.Omega.{arith}
use lib.Dec.{eqb, ltb}
use borrow.Author.Tests.{lt-ltb, le-ltb, eq-eqb, ne_eqb}
use Rattle.grammar.specs.Grammar.{negated}
use Rattle.reading.specs.Items.{put}
use Rattle.reading.specs.Table.{Act, take, pass, refuse, plain, signed, after}
use Rattle.dues.specs.Words.{WordAct, taken, passed, refused, in_words, with_items}

-- a test that decides between two answers
pub below-gives : {A : Type 0} (v n : ℕ) (a b r : A) → v < n → r ≡ a → r ≡ cond (ltb v n) a b
below-gives v n a b r h e = rw (lt-ltb v n h) e

pub past-gives : {A : Type 0} (v n : ℕ) (a b r : A) → n ≤ v → r ≡ b → r ≡ cond (ltb v n) a b
past-gives v n a b r h e = rw (le-ltb v n h) e

pub equal-gives : {A : Type 0} (k j : ℕ) (a b r : A) → k ≡ j → r ≡ a → r ≡ cond (eqb k j) a b
equal-gives k j a b r h e = rw (eq-eqb k j h) e

pub other-gives : {A : Type 0} (k j : ℕ) (a b r : A) → (k ≡ j → ⊥) → r ≡ b → r ≡ cond (eqb k j) a b
other-gives k j a b r h e = rw (ne_eqb k j h) e

pub decided : (b : Bool) (a : Act) → cond b (in_words a) refused ≡ in_words (cond b a refuse)
decided true a = refl
decided false a = refl

-- bounds of integers, in words
pub plain-in-words : (v : ℕ) (a : Act) → cond (ltb v 2147483648) (in_words a) refused ≡ in_words (plain v a)
unfolding plain
plain-in-words v a = decided (ltb v 2147483648) a

pub signed-in-words : (v : ℕ) (a : Act) → cond (ltb v 2147483649) (in_words a) refused ≡ in_words (signed v a)
unfolding signed
signed-in-words v a = decided (ltb v 2147483649) a

-- a node that comes out first, in words
pub after-in-words : (t v : ℕ) (a : Act) → with_items (put t v ∷ []) (in_words a) ≡ in_words (after t v a)
after-in-words t v (take ds is) = refl
after-in-words t v (pass is) = refl
after-in-words t v refuse = refl

pub no_items : (a : WordAct) → with_items [] a ≡ a
no_items (taken ds is) = refl
no_items (passed is) = refl
no_items refused = refl

-- the bits of an integer behind its sign
pub negated-zero : (v : ℕ) → v ≡ 0 → 0 ≡ negated v
unfolding negated
negated-zero v e = rw e

pub negated-some : (v : ℕ) → (v ≡ 0 → ⊥) → v < 2147483649 → 4294967295 - v + 1 ≡ negated v
unfolding negated
negated-some v h l = omega arith
