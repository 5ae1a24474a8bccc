-- What is read from lent rows that were long enough is the rows that a run placed there. Assumes nothing.
use Prim.Native.Nat.{ℕ, zero, suc, ◌+◌, ◌*◌, ◌<◌, ◌≤◌}
use mathlib.Core.Path.{◌≡◌, refl, ap, ◌∙◌}
use mathlib.Core.Option.{some}
use mathlib.Core.List.{List, [], ◌∷◌}
use native.Mathlib.Omega.{arith}
use native.Mathlib.Nat.{add-zero}
use lib.ListN.{length, get_or, get_elem?, set, length-set}
use lib.Seq.{sets, length-sets, get_or-set_same, get_or-set_other}
use borrow.Author.Tests.{le-leb}
use Rattle.words.specs.Lent.{StepRow, row_words, place_row, place_rows}
use Rattle.show.specs.Entries.{lent_row, rows_in}
use Rattle.show.proofs.Listed.{listed-is}

-- ---- words that were set one after the other

sets-before : (vs l : List ℕ) (at i : ℕ) → i < at → get_or (sets l at vs) i 0 ≡ get_or l i 0
sets-before [] l at i h = refl
sets-before (v ∷ vs) l at i h = sets-before vs (set l at v) (suc at) i (omega arith) ∙ get_or-set_other l at i v 0 (λ e. omega arith)

sets-at : (vs l : List ℕ) (at j : ℕ) → at + length vs ≤ length l → j < length vs → get_or (sets l at vs) (at + j) 0 ≡ get_or vs j 0
sets-at [] l at j h k = absurd (omega arith)
sets-at (v ∷ vs) l at zero h k =
    rw (add-zero at) (sets-before vs (set l at v) (suc at) at (omega arith) ∙ get_or-set_same l at v 0 (omega arith))
sets-at (v ∷ vs) l at (suc j) h k =
    let e : at + suc j ≡ suc at + j = omega arith in
    let n = length-set l at v in
    rw e (sets-at vs (set l at v) (suc at) j (omega arith) (omega arith))

-- ---- rows

placed : (lent : List ℕ) (at : ℕ) (r : StepRow) → at + 5 ≤ length lent → place_row lent at r ≡ sets lent at (row_words r)
unfolding place_row
placed lent at r h = rw (le-leb (at + 5) (length lent) h)

-- what stands before the rows stands
rows_before : (rs : List StepRow) (lent : List ℕ) (at i : ℕ) → at + 5 * length rs ≤ length lent → i < at → get_or (place_rows lent at rs) i 0 ≡ get_or lent i 0
unfolding place_rows
rows_before [] lent at i h k = refl
rows_before (r ∷ rs) lent at i h k =
    let n = length-sets lent at (row_words r) in
    rw (placed lent at r (omega arith))
    (rows_before rs (sets lent at (row_words r)) (at + 5) i (omega arith) (omega arith) ∙ sets-before (row_words r) lent at i k)

-- word j of row k
row_word : (rs : List StepRow) (lent : List ℕ) (at k j : ℕ) (r : StepRow) → at + 5 * length rs ≤ length lent → get_elem? rs k ≡ some r → j < 5
    → get_or (place_rows lent at rs) (at + (5 * k + j)) 0 ≡ get_or (row_words r) j 0
unfolding place_rows row_words
row_word [] lent at k j r h e l = let z : ◌≡◌ {A = ℕ} 0 1 = cc in absurd (omega arith)
row_word (x ∷ rs) lent at zero j r h e l =
    let n = length-sets lent at (row_words x) in
    let same : x ≡ r = cc in
    let z : at + (5 * 0 + j) ≡ at + j = omega arith in
    rw (z, placed lent at x (omega arith))
    (rows_before rs (sets lent at (row_words x)) (at + 5) (at + j) (omega arith) (omega arith)
    ∙ sets-at (row_words x) lent at j (omega arith) l
    ∙ ap (λ (y : StepRow). get_or (row_words y) j 0) same)
row_word (x ∷ rs) lent at (suc k) j r h e l =
    let n = length-sets lent at (row_words x) in
    let z : at + (5 * suc k + j) ≡ at + 5 + (5 * k + j) = omega arith in
    rw (z, placed lent at x (omega arith)) (row_word rs (sets lent at (row_words x)) (at + 5) k j r (omega arith) e l)

module _ (rs : List StepRow) (lent : List ℕ) (h : 5 * length rs ≤ length lent) where
  word : (k j i : ℕ) (r : StepRow) → get_elem? rs k ≡ some r → j < 5 → i ≡ 5 * k + j → get_or (place_rows lent 0 rs) i 0 ≡ get_or (row_words r) j 0
  word k j i r e l z =
      let y : i ≡ 0 + (5 * k + j) = omega arith in
      rw y (row_word rs lent 0 k j r (omega arith) e l)

  row_is_lem : (k : ℕ) (r : StepRow) → get_elem? rs k ≡ some r → lent_row (place_rows lent 0 rs) k ≡ r
  unfolding row_words
  row_is_lem k r e =
      rw (
        word k 0 (5 * k) r e (omega arith) (omega arith),
        word k 1 (5 * k + 1) r e (omega arith) refl,
        word k 2 (5 * k + 2) r e (omega arith) refl,
        word k 3 (5 * k + 3) r e (omega arith) refl,
        word k 4 (5 * k + 4) r e (omega arith) refl,
      )

  pub rows_are : rows_in (place_rows lent 0 rs) (length rs) ≡ rs
  unfolding rows_in
  rows_are = listed-is rs (lent_row (place_rows lent 0 rs)) row_is_lem
