-- The parts of a run's text, one after the other, are the whole; and where the words and rows say what the run left, it is
-- the listing of that run. Assumes nothing.
use Prim.Native.Nat.{ℕ, ◌+◌, ◌*◌, ◌≤◌}
use mathlib.Core.Path.{◌≡◌, sym, ap, ◌∙◌}
use mathlib.Core.List.{List, ◌∷◌, ◌++◌, flatten}
use native.Mathlib.Omega.{arith}
use lib.ListN.{length}
use Rattle.rules.specs.declared.End.{End}
use Rattle.rules.specs.State.{Store}
use Rattle.rules.specs.Run.{Ran}
use Rattle.words.specs.Lent.{StepRow}
use Rattle.listed.specs.Listing.{header_line, row_lines, end_line, cell_lines, object_lines, run_lines}
use Rattle.report.proofs.Growing.{flatten-append}
use Rattle.text.specs.declared.Page.{Page}
use Rattle.text.specs.Written.{Adds}
use Rattle.text.proofs.WroteLaws.{both-adds, adds_as}
use Rattle.show.specs.Entries.{rows_in, frames_in, objects_in, run_text}

-- the lines of the five parts
five : (h e : List ℕ) (r c o : List (List ℕ)) → h ++ (flatten r ++ (e ++ (flatten c ++ flatten o))) ≡ flatten (h ∷ (r ++ (e ∷ (c ++ o))))
unfolding flatten
five h e r c o =
    ap (λ (l : List ℕ). h ++ l)
    (ap (λ (l : List ℕ). flatten r ++ (e ++ l)) (sym (flatten-append c o)) ∙ sym (flatten-append r (e ∷ (c ++ o))))

pub run-wrote : (img ws rows : List ℕ) (e : End) (n : ℕ) (d d₁ d₂ d₃ d₄ o : Page)
    → Adds 128 d header_line d₁
    → Adds (128 * n) d₁ (flatten (row_lines 1 (rows_in rows n))) d₂
    → Adds 128 d₂ (end_line e n) d₃
    → Adds 131072 d₃ (flatten (cell_lines img 0 (frames_in ws))) d₄
    → Adds 524288 d₄ (flatten (object_lines img 0 (objects_in img ws))) o
    → Adds (128 * (n + 5122)) d (run_text img ws rows e n) o
unfolding run_text
run-wrote img ws rows e n d d₁ d₂ d₃ d₄ o w w₁ w₂ w₃ w₄ =
    let R = flatten (row_lines 1 (rows_in rows n)) in
    let E = end_line e n in
    let C = flatten (cell_lines img 0 (frames_in ws)) in
    let O = flatten (object_lines img 0 (objects_in img ws)) in
    adds_as (128 + (128 * n + (128 + (131072 + 524288)))) (128 * (n + 5122)) d o (header_line ++ (R ++ (E ++ (C ++ O)))) (run_text img ws rows e n)
    (both-adds 128 (128 * n + (128 + (131072 + 524288))) d d₁ o header_line (R ++ (E ++ (C ++ O))) w
    (both-adds (128 * n) (128 + (131072 + 524288)) d₁ d₂ o R (E ++ (C ++ O)) w₁
    (both-adds 128 (131072 + 524288) d₂ d₃ o E (C ++ O) w₂
    (both-adds 131072 524288 d₃ d₄ o C O w₃ w₄))))
    (five header_line E (row_lines 1 (rows_in rows n)) (cell_lines img 0 (frames_in ws)) (object_lines img 0 (objects_in img ws)))
    (omega arith)

pub text-is : (img ws lent : List ℕ) (rs : List StepRow) (ran : Ran Store) (e : End) (n : ℕ)
    → rows_in lent n ≡ rs → frames_in ws ≡ ran.store.frames → objects_in img ws ≡ ran.store.objects → e ≡ ran.end → n ≡ ran.steps
    → run_text img ws lent e n ≡ flatten (run_lines img rs ran)
unfolding run_text run_lines
text-is img ws lent rs ran e n r f o i j = rw (r, f, o, i, j)
