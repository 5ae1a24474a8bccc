-- Words that are the same, where a word stands among others, and lists in which no word stands twice. Assumes nothing.
use Prim.Native.Nat.{ℕ, zero, suc, ◌<◌}
use mathlib.Core.Path.{◌≡◌, refl, sym, ◌∙◌}
use mathlib.Core.Bool.{Bool, true, false, cond}
use mathlib.Core.Option.{Option, none, some}
use mathlib.Core.List.{List, [], ◌∷◌, ◌++◌}
use native.Mathlib.Omega.{arith}
use lib.Dec.{eqb}
use lib.ListN.{length, get_or}
use borrow.Author.Tests.{eq-eqb, ne_eqb, eqb-true, eqb-false}
use Rattle.grammar.specs.Tokens.{same_word}
use Rattle.grammar.specs.FieldList.{next, position_of, Different}

eqb-sym : (a b : ℕ) → eqb a b ≡ eqb b a
eqb-sym a b = go (eqb a b) refl
  where
    go : (t : Bool) → eqb a b ≡ t → t ≡ eqb b a
    go true e = sym (eq-eqb b a (sym (eqb-true a b e)))
    go false e = sym (ne_eqb b a λ f. eqb-false a b e (sym f))

same-sym : (w v : List ℕ) → same_word w v ≡ same_word v w
unfolding same_word
same-sym [] [] = refl
same-sym [] (c ∷ v) = refl
same-sym (b ∷ w) [] = refl
same-sym (b ∷ w) (c ∷ v) = rw (eqb-sym b c, same-sym w v)

-- ---- where a word stands

pub missing : (w v : List ℕ) (vs : List (List ℕ)) → position_of w (v ∷ vs) ≡ none → (same_word w v ≡ false) × (position_of w vs ≡ none)
unfolding position_of next
missing w v vs e = go (same_word w v) (position_of w vs) e
  where
    go : (t : Bool) (o : Option ℕ) → cond t (some 0) (next o) ≡ none → (t ≡ false) × (o ≡ none)
    go true o f = let z : ◌≡◌ {A = ℕ} 0 1 = cc in absurd (omega arith)
    go false none f = (refl, refl)
    go false (some k) f = let z : ◌≡◌ {A = ℕ} 0 1 = cc in absurd (omega arith)

missing-more : (w v : List ℕ) (ws : List (List ℕ)) → position_of w ws ≡ none → same_word w v ≡ false → position_of w (ws ++ (v ∷ [])) ≡ none
unfolding position_of next
missing-more w v [] e f = rw f
missing-more w v (u ∷ ws) e f = let m = missing w u ws e in rw (m.0, missing-more w v ws m.1 f)

pub position-none : (w : List ℕ) (ws : List (List ℕ)) → ((k : ℕ) → k < length ws → same_word w (get_or ws k []) ≡ false) → position_of w ws ≡ none
unfolding position_of next
position-none w [] h = refl
position-none w (v ∷ ws) h = rw (h zero (omega arith), position-none w ws (λ k l. h (suc k) (omega arith)))

pub position_at : (w : List ℕ) (ws : List (List ℕ)) (i : ℕ) → i < length ws
    → ((k : ℕ) → k < i → same_word w (get_or ws k []) ≡ false) → same_word w (get_or ws i []) ≡ true → position_of w ws ≡ some i
unfolding position_of next
position_at w [] i l h e = absurd (omega arith)
position_at w (v ∷ ws) zero l h e = rw e
position_at w (v ∷ ws) (suc i) l h e =
    rw (h zero (omega arith), position_at w ws i (omega arith) (λ k m. h (suc k) (omega arith)) e)

-- ---- no word twice

pub different-more : (ws : List (List ℕ)) (w : List ℕ) → Different ws → position_of w ws ≡ none → Different (ws ++ (w ∷ []))
different-more [] w d e = (missing-none w, tt)
  where
    missing-none : (w : List ℕ) → position_of w [] ≡ none
    missing-none w = position-none w [] (λ k h. absurd (omega arith))
different-more (v ∷ ws) w d e =
    let m = missing w v ws e in
    (missing-more v w ws d.0 (same-sym v w ∙ m.0), different-more ws w d.1 m.1)

-- a word that others follow stands not among those before it
pub different-apart : (ws : List (List ℕ)) (w : List ℕ) (vs : List (List ℕ)) → Different (ws ++ (w ∷ vs)) → position_of w ws ≡ none
unfolding position_of next
different-apart [] w vs d = refl
different-apart (v ∷ ws) w vs d =
    rw (same-sym w v, unlike v w ws vs d.0, different-apart ws w vs d.1)
  where
    unlike : (v w : List ℕ) (ws vs : List (List ℕ)) → position_of v (ws ++ (w ∷ vs)) ≡ none → same_word v w ≡ false
    unlike v w [] vs e = (missing v w vs e).0
    unlike v w (u ∷ ws) vs e = unlike v w ws vs (missing v u (ws ++ (w ∷ vs)) e).1
