-- The list of fields has one reading: a name runs to its comma and a code to its line's end, so that rows can be told apart in one way. Assumes nothing.
use Prim.Native.Nat.{ℕ}
use mathlib.Core.Path.{◌≡◌, refl, sym, ap}
use mathlib.Core.Bool.{true, false}
use mathlib.Core.List.{List, [], ◌∷◌, ◌++◌}
use native.Mathlib.Omega.{arith}
use lib.ListN.{length, length-append}
use Rattle.grammar.specs.Classes.{line_end, blanks, symbols, among, class_of, is_letter, is_digit, in_word}
use Rattle.grammar.specs.Places.{every, begins}
use Rattle.grammar.specs.FieldList.{Entry, FieldName, Rows, no_row, a-row, Listed}
use Rattle.grammar.proofs.Runs.{one-run}

pub name-in-word : {w : List ℕ} → FieldName w → every in_word w ≡ true
unfolding every in_word is_letter
name-in-word n = rw (n.is, n.low) n.follow

pub comma-ends : (s : List ℕ) → begins in_word (44 ∷ s) ≡ false
unfolding begins in_word is_letter is_digit class_of blanks symbols among
comma-ends s = refl

pub line-ends : (s : List ℕ) → begins is_digit (line_end ∷ s) ≡ false
unfolding begins is_digit class_of blanks among
line-ends s = refl

-- nothing is no row
not-empty : (w : List ℕ) (b : ℕ) (s : List ℕ) → [] ≡ w ++ (b ∷ s) → ⊥
not-empty w b s e = omega (arith, ap length e, length-append w (b ∷ s))

rows_same : {s t : List ℕ} {fs gs : List Entry} → Rows s fs → Rows t gs → s ≡ t → fs ≡ gs
rows_same no_row no_row e = refl
rows_same no_row (a-row {w = v} k ks m hk r) e = absurd (not-empty v 44 _ e)
rows_same (a-row {w} d ds n hd q) no_row e = absurd (not-empty w 44 _ (sym e))
rows_same (a-row {w} {s} d ds {fs} n hd q) (a-row {w = v} {s = t} k ks {fs = gs} m hk r) e =
    let u = one-run in_word (name-in-word n) (comma-ends _) (name-in-word m) (comma-ends _) e in
    let i : (d ∷ ds) ++ (line_end ∷ s) ≡ (k ∷ ks) ++ (line_end ∷ t) = cc u.1 in
    let j = one-run is_digit {w = d ∷ ds} {v = k ∷ ks} hd (line-ends s) hk (line-ends t) i in
    let f : s ≡ t = cc j.1 in
    let g = rows_same q r f in
    cc (u.0, j.0, g)

pub rows-one : {list : List ℕ} {fs gs : List Entry} → Rows list fs → Rows list gs → fs ≡ gs
rows-one q r = rows_same q r refl

pub listed-one : {list : List ℕ} {fs gs : List Entry} → Listed list fs → Listed list gs → fs ≡ gs
listed-one q r = rows-one q.rows r.rows
