-- The loops that write line after line: before the first turn nothing stands, a turn adds the next entry's text, and the
-- last turn leaves the text of all entries. Assumes nothing.
use Prim.Native.Nat.{ℕ, zero, suc, min, ◌+◌, ◌*◌, ◌≤◌}
use mathlib.Core.Path.{◌≡◌, refl, sym, ap, ◌∙◌}
use mathlib.Core.List.{List, [], ◌∷◌, ◌++◌, flatten}
use native.Mathlib.Omega.{arith}
use native.Mathlib.Numerals.{add-one}
use lib.ListN.{length, length-append}
use Rattle.words.specs.Layout.{frame_count, object_count}
use Rattle.rules.specs.Image.{fields_of, most_fields}
use Rattle.listed.specs.Listing.{row_line, row_lines, cell_line, cell_lines, field_line, field_lines, object_lines}
use Rattle.report.proofs.Growing.{rows_more, cells-more, fields-more, objects-more}
use Rattle.text.specs.declared.Page.{Page}
use Rattle.text.specs.Written.{Adds}
use Rattle.text.proofs.WroteLaws.{none-adds, more-adds, adds_as}
use Rattle.rules.specs.State.{most_frames, most_objects}
use Rattle.show.specs.Entries.{lent_row, frame_in, field_word_in, listed, at_most, rows_in, frames_up_to, frames_in, fields_up_to, object_in, objects_up_to, objects_in}

listed-long : {A : Type 0} (f : ℕ → A) (n : ℕ) → length (listed f n) ≡ n
unfolding listed
listed-long f zero = refl
listed-long f (suc n) = length-append (listed f n) (f n ∷ []) ∙ rw (listed-long f n, add-one n)

-- one more of them
listed_more : {A : Type 0} (f : ℕ → A) (i : ℕ) → listed f (i + 1) ≡ listed f i ++ (f i ∷ [])
unfolding listed
listed_more f i = ap (listed f) (add-one i)

-- the lesser of a count and its limit
min-at-most : (n most : ℕ) → min n most ≡ at_most most n
unfolding at_most
min-at-most n most = omega arith

module _ (d : Page) where
  -- ---- rows

  module _ (rows : List ℕ) where
    pub rows_none : Adds (128 * 0) d (flatten (row_lines 1 (rows_in rows 0))) d
    unfolding rows_in listed row_lines flatten
    rows_none = none-adds d

    pub rows-turn : (i : ℕ) (e o : Page) → Adds (128 * i) d (flatten (row_lines 1 (rows_in rows i))) e
        → Adds 128 e (row_line (i + 1) (lent_row rows i)) o
        → Adds (128 * (i + 1)) d (flatten (row_lines 1 (rows_in rows (i + 1)))) o
    unfolding rows_in
    rows-turn i e o v w =
        let l = listed-long (lent_row rows) i in
        let z : 1 + length (rows_in rows i) ≡ i + 1 = omega arith in
        more-adds (128 * i) 128 (128 * (i + 1)) d e o _ _ _ v w
        (rw (listed_more (lent_row rows) i)
        (rows_more (rows_in rows i) 1 (lent_row rows i)
        ∙ ap (λ (k : ℕ). flatten (row_lines 1 (rows_in rows i)) ++ row_line k (lent_row rows i)) z))
        (omega arith)

  module _ (img ws : List ℕ) where
    -- ---- cells

    pub cells-none : Adds (128 * 0) d (flatten (cell_lines img 0 (frames_up_to ws 0))) d
    unfolding frames_up_to listed cell_lines flatten
    cells-none = none-adds d

    pub cells-turn : (k : ℕ) (e o : Page) → Adds (128 * k) d (flatten (cell_lines img 0 (frames_up_to ws k))) e
        → Adds 128 e (cell_line img k (frame_in ws k)) o
        → Adds (128 * (k + 1)) d (flatten (cell_lines img 0 (frames_up_to ws (k + 1)))) o
    unfolding frames_up_to
    cells-turn k e o v w =
        let l = listed-long (frame_in ws) k in
        let z : 0 + length (frames_up_to ws k) ≡ k = omega arith in
        more-adds (128 * k) 128 (128 * (k + 1)) d e o _ _ _ v w
        (rw (listed_more (frame_in ws) k)
        (cells-more img (frames_up_to ws k) 0 (frame_in ws k)
        ∙ ap (λ (j : ℕ). flatten (cell_lines img 0 (frames_up_to ws k)) ++ cell_line img j (frame_in ws k)) z))
        (omega arith)

    pub cells-all : (n m k : ℕ) (o : Page) → n ≡ frame_count ws → m ≡ min n 1024 → k ≤ m → m ≤ k
        → Adds (128 * k) d (flatten (cell_lines img 0 (frames_up_to ws k))) o
        → Adds 131072 d (flatten (cell_lines img 0 (frames_in ws))) o
    unfolding frames_in
    cells-all n m k o f e l g w =
        let h : k ≡ at_most most_frames (frame_count ws) = omega (arith, e, l, g) ∙ min-at-most n 1024 ∙ ap (at_most most_frames) f in
        adds_as (128 * k) 131072 d o _ _ w (ap (λ (j : ℕ). flatten (cell_lines img 0 (frames_up_to ws j))) h) (omega arith)

    -- ---- the fields of an object

    module _ (j : ℕ) where
      pub fields-none : Adds (128 * 0) d (flatten (field_lines img j 0 (fields_up_to ws j 0))) d
      unfolding fields_up_to listed field_lines flatten
      fields-none = none-adds d

      pub fields-turn : (i : ℕ) (e o : Page) → Adds (128 * i) d (flatten (field_lines img j 0 (fields_up_to ws j i))) e
          → Adds 128 e (field_line img j i (field_word_in ws j i)) o
          → Adds (128 * (i + 1)) d (flatten (field_lines img j 0 (fields_up_to ws j (i + 1)))) o
      unfolding fields_up_to
      fields-turn i e o v w =
          let l = listed-long (field_word_in ws j) i in
          let z : 0 + length (fields_up_to ws j i) ≡ i = omega arith in
          more-adds (128 * i) 128 (128 * (i + 1)) d e o _ _ _ v w
          (rw (listed_more (field_word_in ws j) i)
          (fields-more img (fields_up_to ws j i) j 0 (field_word_in ws j i)
          ∙ ap (λ (k : ℕ). flatten (field_lines img j 0 (fields_up_to ws j i)) ++ field_line img j k (field_word_in ws j i)) z))
          (omega arith)

    -- ---- objects

    pub objects-none : Adds (2048 * 0) d (flatten (object_lines img 0 (objects_up_to img ws 0))) d
    unfolding objects_up_to listed object_lines flatten
    objects-none = none-adds d

    pub objects-turn : (j n F : ℕ) (e o : Page) → n ≡ fields_of img → F ≡ min n 16
        → Adds (2048 * j) d (flatten (object_lines img 0 (objects_up_to img ws j))) e
        → Adds 2048 e (flatten (field_lines img j 0 (fields_up_to ws j F))) o
        → Adds (2048 * (j + 1)) d (flatten (object_lines img 0 (objects_up_to img ws (j + 1)))) o
    unfolding objects_up_to object_in
    objects-turn j n F e o f h v w =
        let l = listed-long (object_in img ws) j in
        let z : 0 + length (objects_up_to img ws j) ≡ j = omega arith in
        let same : flatten (field_lines img j 0 (fields_up_to ws j F)) ≡ flatten (field_lines img j 0 (object_in img ws j).values) =
        ap (λ (k : ℕ). flatten (field_lines img j 0 (fields_up_to ws j k))) (h ∙ min-at-most n 16 ∙ ap (at_most most_fields) f) in
        more-adds (2048 * j) 2048 (2048 * (j + 1)) d e o _ _ _ v (adds_as 2048 2048 e o _ _ w same (omega arith))
        (rw (listed_more (object_in img ws) j)
        (objects-more img (objects_up_to img ws j) 0 (object_in img ws j)
        ∙ ap (λ (k : ℕ). flatten (object_lines img 0 (objects_up_to img ws j)) ++ flatten (field_lines img k 0 (object_in img ws j).values)) z))
        (omega arith)

    pub objects-all : (n m j : ℕ) (o : Page) → n ≡ object_count ws → m ≡ min n 256 → j ≤ m → m ≤ j
        → Adds (2048 * j) d (flatten (object_lines img 0 (objects_up_to img ws j))) o
        → Adds 524288 d (flatten (object_lines img 0 (objects_in img ws))) o
    unfolding objects_in
    objects-all n m j o f e l g w =
        let h : j ≡ at_most most_objects (object_count ws) = omega (arith, e, l, g) ∙ min-at-most n 256 ∙ ap (at_most most_objects) f in
        adds_as (2048 * j) 524288 d o _ _ w (ap (λ (k : ℕ). flatten (object_lines img 0 (objects_up_to img ws k))) h) (omega arith)
