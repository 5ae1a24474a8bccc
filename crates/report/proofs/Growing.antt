-- One more entry, one more line: the text of a list of rows, cells, fields or objects that grows at its end grows by the
-- text of the new entry. So a loop that writes line after line writes the listing. Assumes nothing.
use Prim.Native.Nat.{ℕ, suc, ◌+◌}
use mathlib.Core.Path.{◌≡◌, refl, sym, ap, ◌∙◌}
use mathlib.Core.List.{List, [], ◌∷◌, ◌++◌, append-nil, append_assoc, flatten}
use native.Mathlib.Nat.{add-zero, add-suc, suc-add}
use lib.ListN.{length}
use Rattle.rules.specs.declared.Value.{Value}
use Rattle.rules.specs.declared.Frame.{Frame}
use Rattle.words.specs.Lent.{StepRow}
use Rattle.listed.specs.Listing.{row_line, row_lines, cell_line, cell_lines, field_line, field_lines, object_lines}
use Rattle.rules.specs.State.{AnObject}

pub flatten-append : (xs ys : List (List ℕ)) → flatten (xs ++ ys) ≡ flatten xs ++ flatten ys
unfolding flatten
flatten-append [] ys = refl
flatten-append (x ∷ xs) ys = ap (λ (l : List ℕ). x ++ l) (flatten-append xs ys) ∙ sym (append_assoc x (flatten xs) (flatten ys))

-- a line before a text that grows
under : (x l m n : List ℕ) → l ≡ m ++ n → x ++ l ≡ x ++ m ++ n
under x l m n e = ap (λ (k : List ℕ). x ++ k) e ∙ sym (append_assoc x m n)

pub rows_more : (rs : List StepRow) (k : ℕ) (r : StepRow)
    → flatten (row_lines k (rs ++ (r ∷ []))) ≡ flatten (row_lines k rs) ++ row_line (k + length rs) r
unfolding row_lines flatten
rows_more [] k r = rw (add-zero k, append-nil)
rows_more (x ∷ rs) k r =
    rw (add-suc k (length rs), ← suc-add k (length rs))
    (under (row_line k x) _ (flatten (row_lines (suc k) rs)) (row_line (suc k + length rs) r) (rows_more rs (suc k) r))

module _ (img : List ℕ) where
  pub cells-more : (fs : List Frame) (k : ℕ) (f : Frame)
      → flatten (cell_lines img k (fs ++ (f ∷ []))) ≡ flatten (cell_lines img k fs) ++ cell_line img (k + length fs) f
  unfolding cell_lines flatten
  cells-more [] k f = rw (add-zero k, append-nil)
  cells-more (x ∷ fs) k f =
      rw (add-suc k (length fs), ← suc-add k (length fs))
      (under (cell_line img k x) _ (flatten (cell_lines img (suc k) fs)) (cell_line img (suc k + length fs) f) (cells-more fs (suc k) f))

  pub fields-more : (vs : List Value) (o i : ℕ) (v : Value)
      → flatten (field_lines img o i (vs ++ (v ∷ []))) ≡ flatten (field_lines img o i vs) ++ field_line img o (i + length vs) v
  unfolding field_lines flatten
  fields-more [] o i v = rw (add-zero i, append-nil)
  fields-more (x ∷ vs) o i v =
      rw (add-suc i (length vs), ← suc-add i (length vs))
      (under (field_line img o i x) _ (flatten (field_lines img o (suc i) vs)) (field_line img o (suc i + length vs) v) (fields-more vs o (suc i) v))

  pub objects-more : (os : List AnObject) (o : ℕ) (y : AnObject)
      → flatten (object_lines img o (os ++ (y ∷ []))) ≡ flatten (object_lines img o os) ++ flatten (field_lines img (o + length os) 0 y.values)
  unfolding object_lines flatten
  objects-more [] o y = rw (add-zero o, append-nil)
  objects-more (x ∷ os) o y =
      rw (add-suc o (length os), ← suc-add o (length os), flatten-append (field_lines img o 0 x.values) (object_lines img (suc o) (os ++ (y ∷ []))), flatten-append (field_lines img o 0 x.values) (object_lines img (suc o) os))
      (under (flatten (field_lines img o 0 x.values)) _ (flatten (object_lines img (suc o) os)) (flatten (field_lines img (suc o + length os) 0 y.values)) (objects-more os (suc o) y))
