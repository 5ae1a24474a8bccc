-- What is spelled has just its tokens at its places: a word, a number or a symbol ends where a blank or a closing symbol follows, and where nothing
-- stands between two tokens the first would not go on into the second. Assumes nothing.
use Prim.Native.Nat.{ℕ, zero, suc, ◌-◌, ◌<◌}
use mathlib.Core.Path.{◌≡◌, refl, sym, subst, ◌∙◌}
use mathlib.Core.Bool.{Bool, true, false, cond, true≢false, false≢true, ◌&&◌, ◌||◌}
use mathlib.Core.List.{List, [], ◌∷◌, ◌++◌}
use native.Mathlib.Omega.{arith}
use lib.ListN.{length, get_or}
use lib.Dec.{eqb}
use borrow.Author.Tests.{eqb-true, eq-eqb}
use Rattle.grammar.specs.Classes.{among}
use Rattle.grammar.specs.Tokens.{Tok, name, field_name, number, mark, kind_of}
use Rattle.grammar.specs.Places.{Piece, marked, Spot, spot, Spelled, ends}
use Rattle.grammar.specs.FieldList.{FieldName}
use Rattle.writing.specs.Spell.{decimal_of, marks, spelled_as, bytes_for, piece_for, opening, closing, called, tight, gap, spell, places_for, VariableName, Each, Spells, IsNumber, NumberFirst, Spellable}
use Rattle.writing.proofs.Pieces.{Stops, Spelt, a-variable, a-field, a-decimal, rows, row_of, of-all, Opens, opens, Closes, closes, begins-group, blank-stops, past-blank, sign-number}

each_at : (P : List ℕ → Type 0) (ws : List (List ℕ)) (x : ℕ) → Each P ws → x < length ws → P (get_or ws x [])
each_at P [] x h l = absurd (omega arith)
each_at P (w ∷ ws) zero h l = h.0
each_at P (w ∷ ws) (suc x) h l = each_at P ws x h.1 (omega arith)

module _ (names fields : List (List ℕ)) (variables : Each VariableName names) (all-fields : Each FieldName fields) where
  abbrev bytes : Tok → List ℕ
  bytes t = bytes_for names fields t

  abbrev piece : Tok → Piece
  piece t = piece_for names fields t

  abbrev Fits : Tok → Type 0
  Fits t = Spells (length names) (length fields) t

  -- where what follows stops it
  spelt : (t : Tok) → Fits t → (kind_of t ≡ 4 → ⊥) → Spelt (bytes t) (piece t)
  unfolding bytes_for piece_for kind_of
  spelt (name x) h n = a-variable (get_or names x []) (each_at VariableName names x variables h)
  spelt (field_name f) h n = a-field (get_or fields (f - 1) []) (each_at FieldName fields (f - 1) all-fields (omega (arith, h.0, h.1)))
  spelt (number m) h n = a-decimal m
  spelt (mark k) h n = (row_of k marks rows h).spelt n

  -- behind what opens
  spelt-open : (t : Tok) → among (kind_of t) opening ≡ true → (kind_of t ≡ 4 → ⊥) → {s : List ℕ} {l : ℕ} {ps : List Spot}
      → Spelled s l ps → Spelled (bytes t ++ s) l (spot l (piece t) ∷ ps)
  unfolding bytes_for piece_for kind_of among opening
  spelt-open (name x) e n d = absurd (false≢true e)
  spelt-open (field_name f) e n d = absurd (false≢true e)
  spelt-open (number m) e n d = absurd (false≢true e)
  spelt-open (mark k) e n {s} {l} {ps} d = of-all Opens k opening opens e n s l ps d

  closing-stops : (u : Tok) (s : List ℕ) → among (kind_of u) closing ≡ true → Stops (bytes u ++ s)
  unfolding bytes_for kind_of among closing
  closing-stops (name x) s e = absurd (false≢true e)
  closing-stops (field_name f) s e = absurd (false≢true e)
  closing-stops (number m) s e = absurd (false≢true e)
  closing-stops (mark k) s e = of-all Closes k closing closes e s

  group-stops : (u : Tok) (s : List ℕ) → eqb (kind_of u) 17 ≡ true → Stops (bytes u ++ s)
  unfolding bytes_for kind_of
  group-stops (name x) s e = absurd (false≢true e)
  group-stops (field_name f) s e = absurd (false≢true e)
  group-stops (number m) s e = absurd (false≢true e)
  group-stops (mark k) s e = subst Closes (sym (eqb-true k 17 e)) begins-group s

  -- a sign and its number
  spelt-sign : (t u : Tok) (us : List Tok) (s : List ℕ) {l : ℕ} {ps : List Spot} → kind_of t ≡ 4 → IsNumber u → Fits t
      → Spelled (bytes u ++ s) l ps
      → Spelled (bytes t ++ (gap t (u ∷ us) ++ (bytes u ++ s))) l (spot l (piece t) ∷ ps)
  unfolding bytes_for piece_for kind_of gap tight
  spelt-sign (name x) u us s e i h d = absurd (omega arith)
  spelt-sign (field_name f) u us s e i h d = absurd (omega arith)
  spelt-sign (number m) u us s e i h d = absurd (omega arith)
  spelt-sign (mark k) (name x) us s e i h d = absurd i
  spelt-sign (mark k) (field_name f) us s e i h d = absurd i
  spelt-sign (mark k) (number m) us s {l} {ps} e i h d =
      subst
      (λ j. Spelled (spelled_as j marks ++ (cond (tight j 3) [] (32 ∷ []) ++ (decimal_of m ++ s))) l (spot l (marked j) ∷ ps))
      (sym e)
      (sign-number m s d)
  spelt-sign (mark k) (mark j) us s e i h d = absurd i

  -- any other token
  spelt-other : (t u : Tok) (s : List ℕ) {l : ℕ} {ps : List Spot} → Fits t → (kind_of t ≡ 4 → ⊥)
      → Spelled (bytes u ++ s) l ps
      → Spelled (bytes t ++ (cond (tight (kind_of t) (kind_of u)) [] (32 ∷ []) ++ (bytes u ++ s))) l (spot l (piece t) ∷ ps)
  unfolding tight
  spelt-other t u s {l} {ps} h n d = go (among (kind_of t) opening) (among (kind_of u) closing) (eqb (kind_of u) 17) (among (kind_of t) called) refl refl refl
    where
      go : (a b c e : Bool) → among (kind_of t) opening ≡ a → among (kind_of u) closing ≡ b → eqb (kind_of u) 17 ≡ c
          → Spelled (bytes t ++ (cond (a || (b || (c && e))) [] (32 ∷ []) ++ (bytes u ++ s))) l (spot l (piece t) ∷ ps)
      go true b c e i j k = spelt-open t i n d
      go false true c e i j k = spelt t h n (bytes u ++ s) l ps (closing-stops u s j) d
      go false false true true i j k = spelt t h n (bytes u ++ s) l ps (group-stops u s k) d
      go false false true false i j k = spelt t h n (32 ∷ (bytes u ++ s)) l ps (blank-stops (bytes u ++ s)) (past-blank d)
      go false false false e i j k = spelt t h n (32 ∷ (bytes u ++ s)) l ps (blank-stops (bytes u ++ s)) (past-blank d)

  before : (t : Tok) (ts : List Tok) {l : ℕ} {ps : List Spot} → Fits t → (kind_of t ≡ 4 → NumberFirst ts)
      → Spelled (spell names fields ts) l ps → Spelled (spell names fields (t ∷ ts)) l (spot l (piece t) ∷ ps)
  unfolding spell gap
  before t [] {l} {ps} h n d = spelt t h n [] l ps tt d
  before t (u ∷ us) {l} {ps} h n d = go (eqb (kind_of t) 4) refl
    where
      rest : List ℕ
      rest = gap u us ++ spell names fields us

      go : (b : Bool) → eqb (kind_of t) 4 ≡ b
          → Spelled (bytes t ++ (gap t (u ∷ us) ++ (bytes u ++ rest))) l (spot l (piece t) ∷ ps)
      go true e = let k = eqb-true (kind_of t) 4 e in spelt-sign t u us rest k (n k) h d
      go false e = spelt-other t u rest h (λ k. true≢false (sym (eq-eqb (kind_of t) 4 k) ∙ e)) d

  spells : (ts : List Tok) (l : ℕ) → Spellable (length names) (length fields) ts → Spelled (spell names fields ts) l (places_for names fields l ts)
  unfolding spell places_for
  spells [] l h = ends
  spells (t ∷ ts) l h = before t ts h.0 h.1 (spells ts l h.2)

  -- a text has just the tokens of which it is spelled
  pub spells-back : (ts : List Tok) → Spellable (length names) (length fields) ts → Spelled (spell names fields ts) 1 (places_for names fields 1 ts)
  spells-back ts h = spells ts 1 h
