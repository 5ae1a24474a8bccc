-- Words that are pairwise different: each is found where it stands, and the words of numbers are the same exactly where the numbers are. Assumes nothing.
use Prim.Native.Nat.{ℕ, zero, suc, ◌<◌}
use mathlib.Core.Path.{◌≡◌, refl, sym, ap, subst, ◌∙◌}
use mathlib.Core.Bool.{Bool, true, false, cond, true≢false, false≢true, ◌||◌}
use mathlib.Core.Option.{Option, none, some}
use mathlib.Core.List.{List, [], ◌∷◌, map}
use native.Mathlib.Omega.{arith}
use lib.ListN.{length, get_or}
use lib.Dec.{eqb}
use borrow.Author.Tests.{eqb-true, eq-eqb}
use Rattle.laws.specs.Bools.{and_both}
use Rattle.grammar.specs.Classes.{among}
use Rattle.grammar.specs.Tokens.{same_word}
use Rattle.grammar.specs.Places.{present}
use Rattle.grammar.specs.FieldList.{next, position_of, Different}
use Rattle.grammar.proofs.Numbering.{no-some, same_word_lem}
use Rattle.writing.specs.Renumber.{place_in}

-- ---- the same word

pub one_word : (w v : List ℕ) → same_word w v ≡ true → w ≡ v
unfolding same_word
one_word [] [] e = refl
one_word [] (c ∷ v) e = absurd (false≢true e)
one_word (b ∷ w) [] e = absurd (false≢true e)
one_word (b ∷ w) (c ∷ v) e =
    let k = and_both (eqb b c) (same_word w v) e in
    let i = eqb-true b c k.0 in
    let j = one_word w v k.1 in
    rw (i, j) refl

pub other_word : (w v : List ℕ) → (w ≡ v → ⊥) → same_word w v ≡ false
other_word w v n = go (same_word w v) refl
  where
    go : (t : Bool) → same_word w v ≡ t → t ≡ false
    go true e = absurd (n (one_word w v e))
    go false e = refl

-- ---- words of a list

-- a word that stands in the list is found
found : (ws : List (List ℕ)) (x : ℕ) → x < length ws → position_of (get_or ws x []) ws ≡ none → ⊥
unfolding position_of next
found [] x h e = absurd (omega arith)
found (w ∷ ws) zero h e = no-some (rw (same_word_lem w) at (sym e))
found (w ∷ ws) (suc x) h e = go (same_word (get_or ws x []) w) (position_of (get_or ws x []) ws) (found ws x (omega arith)) e
  where
    go : (t : Bool) (o : Option ℕ) → (o ≡ none → ⊥) → cond t (some 0) (next o) ≡ none → ⊥
    go true o f i = no-some (sym i)
    go false none f i = f refl
    go false (some k) f i = no-some (sym i)

pub one_place : (ws : List (List ℕ)) (x y : ℕ) → Different ws → x < length ws → y < length ws → get_or ws x [] ≡ get_or ws y [] → x ≡ y
one_place [] x y d h i e = absurd (omega arith)
one_place (w ∷ ws) zero zero d h i e = refl
one_place (w ∷ ws) zero (suc y) d h i e = absurd (found ws y (omega arith) (subst (λ v. position_of v ws ≡ none) e d.0))
one_place (w ∷ ws) (suc x) zero d h i e = absurd (found ws x (omega arith) (subst (λ v. position_of v ws ≡ none) (sym e) d.0))
one_place (w ∷ ws) (suc x) (suc y) d h i e = ap suc (one_place ws x y d.1 (omega arith) (omega arith) e)

pub found_at : (ws : List (List ℕ)) (x : ℕ) → Different ws → x < length ws → position_of (get_or ws x []) ws ≡ some x
unfolding position_of next
found_at [] x d h = absurd (omega arith)
found_at (w ∷ ws) zero d h = rw (same_word_lem w) refl
found_at (w ∷ ws) (suc x) d h =
    let other : same_word (get_or ws x []) w ≡ false = other_word (get_or ws x []) w (λ e. found ws x (omega arith) (subst (λ v. position_of v ws ≡ none) (sym e) d.0)) in
    let i = found_at ws x d.1 (omega arith) in
    rw (other, i) refl

-- ---- numbers by their words

abbrev pub AllBelow : ℕ → List ℕ → Type 0
AllBelow n [] = Unit {0}
AllBelow n (x ∷ xs) = (x < n) × AllBelow n xs

module _ (n : ℕ) (word : ℕ → List ℕ) (one : (x y : ℕ) → x < n → y < n → word x ≡ word y → x ≡ y) where
  same-as : (x y : ℕ) → x < n → y < n → same_word (word x) (word y) ≡ eqb x y
  same-as x y g h = go (eqb x y) refl
    where
      go : (t : Bool) → eqb x y ≡ t → same_word (word x) (word y) ≡ t
      go true e = rw (eqb-true x y e) (same_word_lem (word y))
      go false e = other_word (word x) (word y) (λ i. true≢false (sym (eq-eqb x y (one x y g h i)) ∙ e))

  pub present-as : (xs : List ℕ) (x : ℕ) → AllBelow n xs → x < n → present (position_of (word x) (map word xs)) ≡ among x xs
  unfolding position_of present among next
  present-as [] x h l = refl
  present-as (y ∷ ys) x h l = rw (same-as x y l h.0) (go (eqb x y) (position_of (word x) (map word ys)) (present-as ys x h.1 l))
    where
      go : (t : Bool) (o : Option ℕ) → present o ≡ among x ys → present (cond t (some 0) (next o)) ≡ (t || among x ys)
      go true o e = refl
      go false none e = e
      go false (some k) e = e

  pub place-as : (xs : List ℕ) (x k : ℕ) → AllBelow n xs → x < n → position_of (word x) (map word xs) ≡ some k → k ≡ place_in xs x
  unfolding position_of next place_in
  place-as [] x k h l e = absurd (no-some e)
  place-as (y ∷ ys) x k h l e = go (eqb x y) (position_of (word x) (map word ys)) (λ j. place-as ys x j h.1 l) (rw (same-as x y l h.0) at e)
    where
      go : (t : Bool) (o : Option ℕ) → ((j : ℕ) → o ≡ some j → j ≡ place_in ys x) → cond t (some 0) (next o) ≡ some k → k ≡ cond t 0 (suc (place_in ys x))
      go true o f i = let z : 0 ≡ k = cc in sym z
      go false none f i = absurd (no-some i)
      go false (some j) f i = let z : suc j ≡ k = cc in sym z ∙ ap suc (f j refl)
