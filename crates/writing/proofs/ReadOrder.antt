-- The tokens of a text that is read have their names numbered by first appearance: the names that appear in them are 0, 1, 2, .. Assumes nothing.
use Prim.Native.Nat.{ℕ, zero, suc, ◌+◌, ◌<◌, ◌≤◌}
use mathlib.Core.Path.{◌≡◌, refl, sym, ap, subst, ◌∙◌}
use mathlib.Core.Bool.{Bool, true, false, cond, true≢false, ◌||◌}
use mathlib.Core.Option.{Option, none, some}
use mathlib.Core.List.{List, [], ◌∷◌, ◌++◌}
use native.Mathlib.Omega.{arith}
use native.Mathlib.Nat.{zero-add}
use lib.ListN.{length, length-append}
use lib.Dec.{eqb}
use borrow.Author.Tests.{eqb-true, eq-eqb, ne_eqb}
use Rattle.grammar.specs.Classes.{among}
use Rattle.grammar.specs.Tokens.{Tok, name, field_name, number, mark}
use Rattle.grammar.specs.Places.{Piece, variable, field_word, digits, marked, bad_byte, Spot, spot, present}
use Rattle.grammar.specs.FieldList.{position_of}
use Rattle.grammar.specs.Names.{noted, names_from, names_in, by_name, by_field, token_of, tokens_of}
use Rattle.grammar.proofs.Numbering.{no-some, position-stays, position-below, position-new, names-grow, in-front}
use Rattle.writing.specs.Renumber.{with_name, appearing_from, appearing, place_in}

-- ---- numbers in a row

unfoldable pub row : ℕ → ℕ → List ℕ  -- n of them, from m on
row m zero = []
row m (suc n) = m ∷ row (suc m) n

pub length-row : (m n : ℕ) → length (row m n) ≡ n
unfolding row
length-row m zero = refl
length-row m (suc n) = ap suc (length-row (suc m) n)

row_more : (m n : ℕ) → row m n ++ ((m + n) ∷ []) ≡ row m (suc n)
unfolding row
row_more m zero = ap (λ k. k ∷ []) (let e : m + 0 ≡ m = omega arith in e)
row_more m (suc n) = ap (m ∷◌) (ap (λ k. row (suc m) n ++ (k ∷ [])) (let e : m + suc n ≡ suc m + n = omega arith in e) ∙ row_more (suc m) n)

row_has : (k m n : ℕ) → m ≤ k → k < m + n → among k (row m n) ≡ true
unfolding row among
row_has k m zero g h = absurd (omega arith)
row_has k m (suc n) g h = go (eqb k m) refl (row_has k (suc m) n)
  where
    go : (b : Bool) → eqb k m ≡ b → (suc m ≤ k → k < suc m + n → among k (row (suc m) n) ≡ true) → (b || among k (row (suc m) n)) ≡ true
    go true e f = refl
    go false e f = let i : k ≡ m → ⊥ = λ j. true≢false (sym (eq-eqb k m j) ∙ e) in f (omega arith) (omega arith)

row-lacks : (k m n : ℕ) → m + n ≤ k → among k (row m n) ≡ false
unfolding row among
row-lacks k m zero h = refl
row-lacks k m (suc n) h = rw (ne_eqb k m (λ e. omega arith)) (row-lacks k (suc m) n (omega arith))

place-in-row : (k m n : ℕ) → m ≤ k → k < m + n → m + place_in (row m n) k ≡ k
unfolding row place_in
place-in-row k m zero g h = absurd (omega arith)
place-in-row k m (suc n) g h = go (eqb k m) refl (place-in-row k (suc m) n)
  where
    go : (b : Bool) → eqb k m ≡ b → (suc m ≤ k → k < suc m + n → suc m + place_in (row (suc m) n) k ≡ k) → m + cond b 0 (suc (place_in (row (suc m) n) k)) ≡ k
    go true e f = let i = eqb-true k m e in omega arith
    go false e f = let i : k ≡ m → ⊥ = λ j. true≢false (sym (eq-eqb k m j) ∙ e) in let j = f (omega arith) (omega arith) in omega arith

pub place-own : (n k : ℕ) → k < n → place_in (row 0 n) k ≡ k
place-own n k h = omega (arith, place-in-row k 0 n (omega arith) (omega arith))

-- ---- one place after the other

module _ (fields : List (List ℕ)) where
  -- the token at a place, with all names, and what has appeared with it
  step : (ns ms : List (List ℕ)) (p : Piece) (t : Tok) → token_of fields (noted ns p ++ ms) p ≡ some t
      → with_name (row 0 (length ns)) t ≡ row 0 (length (noted ns p))
  unfolding token_of noted with_name present
  step ns ms (variable w) t e = go (position_of w ns) refl e
    where
      go : (o : Option ℕ) → position_of w ns ≡ o → by_name (position_of w (cond (present o) ns (ns ++ (w ∷ [])) ++ ms)) ≡ some t
          → with_name (row 0 (length ns)) t ≡ row 0 (length (cond (present o) ns (ns ++ (w ∷ []))))
      go none i d =
          let k = position-stays w (ns ++ (w ∷ [])) ms (position-new w ns i) in
          let z : name (length ns) ≡ t = cc in
          let l : length (ns ++ (w ∷ [])) ≡ suc (length ns) = omega (arith, length-append ns (w ∷ [])) in
          rw (← z, l) (rw (row-lacks (length ns) 0 (length ns) (omega arith)) (rw (zero-add (length ns)) at (row_more 0 (length ns))))
      go (some k) i d =
          let j = position-stays w ns ms i in
          let z : name k ≡ t = cc in
          rw (← z) (rw (row_has k 0 (length ns) (omega arith) (omega (arith, position-below w ns i))) refl)
  step ns ms (field_word w) t e = go (position_of w fields) e
    where
      go : (o : Option ℕ) → by_field o ≡ some t → with_name (row 0 (length ns)) t ≡ row 0 (length ns)
      go none d = absurd (no-some d)
      go (some k) d = let z : field_name (suc k) ≡ t = cc in rw (← z) refl
  step ns ms (digits n) t e = let z : number n ≡ t = cc in rw (← z) refl
  step ns ms (marked k) t e = let z : mark k ≡ t = cc in rw (← z) refl
  step ns ms (bad_byte b) t e = absurd (no-some e)

  steps : (ps : List Spot) (ns : List (List ℕ)) (ts : List Tok) → tokens_of fields (names_from ns ps) ps ≡ some ts
      → appearing_from (row 0 (length ns)) ts ≡ row 0 (length (names_from ns ps))
  unfolding tokens_of names_from appearing_from
  steps [] ns ts e = let z : [] ≡ ts = cc in rw (← z) refl
  steps (spot l p ∷ ps) ns ts e =
      let f = in-front (token_of fields (names_from (noted ns p) ps) p) (tokens_of fields (names_from (noted ns p) ps) ps) e in
      let g = names-grow ps (noted ns p) in
      let h : token_of fields (noted ns p ++ g.0) p ≡ some f.0 = subst (λ all. token_of fields all p ≡ some f.0) g.1 f.2 in
      let z = f.4 in
      rw z
      (ap (λ xs. appearing_from xs f.1) (step ns g.0 p f.0 h) ∙ steps ps (noted ns p) f.1 f.3)

  pub in_order_lem : (ps : List Spot) (ts : List Tok) → tokens_of fields (names_in ps) ps ≡ some ts → appearing ts ≡ row 0 (length (names_in ps))
  unfolding names_in appearing row
  in_order_lem ps ts e = steps ps [] ts e
