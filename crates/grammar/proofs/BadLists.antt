-- Lists of fields, worked: those that are refused with 21 on line 0, whatever the text. A list's rows are computed by a function that gives
-- none where they are no rows; that it gives what `Rows` says is shown first. Assumes nothing.
use Prim.Native.Nat.{ℕ, zero, suc, ◌<◌}
use Prim.Native.String.{String}
use mathlib.Core.Path.{◌≡◌, refl, sym, ap, subst, ◌∙◌}
use mathlib.Core.Bool.{cond, true}
use mathlib.Core.Option.{Option, none, some}
use mathlib.Core.List.{List, [], ◌∷◌, ◌++◌}
use native.Mathlib.Omega.{arith}
use lib.ListN.{length, length-append}
use lib.Dec.{eqb}
use Rattle.grammar.specs.Classes.{line_end, is_digit, in_word}
use Rattle.grammar.specs.Places.{every, decimal}
use Rattle.grammar.specs.FieldList.{Entry, entry, FieldName, Rows, no_row, a-row, Listed}
use Rattle.grammar.specs.Reads.{most_bytes, words_for, Refuses, bad-list}
use Rattle.grammar.proofs.Runs.{run, after, run_is, after_is}
use Rattle.grammar.proofs.Numbering.{no-some}
use Rattle.grammar.proofs.Listing.{name-in-word, comma-ends, line-ends}
use Rattle.grammar.proofs.Cases.{ascii, opens}

-- ---- the rows of a list; the number is above its length, so that the recursion ends

with_row : List ℕ → ℕ → Option (List Entry) → Option (List Entry)
with_row w k none = none
with_row w k (some fs) = some (entry w k ∷ fs)

line_behind : (List ℕ → Option (List Entry)) → List ℕ → List ℕ → List ℕ → Option (List Entry)
line_behind f w [] t = none
line_behind f w (d ∷ ds) [] = none
line_behind f w (d ∷ ds) (c ∷ t) = cond (eqb c line_end) (with_row w (decimal (d ∷ ds)) (f t)) none

comma_behind : (List ℕ → Option (List Entry)) → List ℕ → List ℕ → Option (List Entry)
comma_behind f w [] = none
comma_behind f w (c ∷ t) = cond (eqb c 44) (line_behind f w (run is_digit t) (after is_digit t)) none

rows_of : ℕ → List ℕ → Option (List Entry)
rows_of zero s = none
rows_of (suc n) [] = some []
rows_of (suc n) (b ∷ s) = comma_behind (rows_of n) (run in_word (b ∷ s)) (after in_word (b ∷ s))

-- a first row
one-row : (n : ℕ) (w : List ℕ) (d : ℕ) (ds s : List ℕ) {fs : List Entry} → FieldName w → every is_digit (d ∷ ds) ≡ true → rows_of n s ≡ some fs
    → rows_of (suc n) (w ++ (44 ∷ ((d ∷ ds) ++ (line_end ∷ s)))) ≡ some (entry w (decimal (d ∷ ds)) ∷ fs)
unfolding rows_of comma_behind line_behind with_row
one-row n w d ds s {fs} m hd e =
    let t = (d ∷ ds) ++ (line_end ∷ s) in
    let go : (v : List ℕ) → v ≡ w ++ (44 ∷ t) → (b : ℕ) (r : List ℕ) → v ≡ b ∷ r → rows_of (suc n) v ≡ some (entry w (decimal (d ∷ ds)) ∷ fs) =
    λ v i b r j.
    let x : run in_word (b ∷ r) ≡ w = ap (run in_word) (sym j ∙ i) ∙ run_is in_word w (44 ∷ t) (name-in-word m) (comma-ends t) in
    let y : after in_word (b ∷ r) ≡ 44 ∷ t = ap (after in_word) (sym j ∙ i) ∙ after_is in_word w (44 ∷ t) (name-in-word m) (comma-ends t) in
    let p : run is_digit t ≡ d ∷ ds = run_is is_digit (d ∷ ds) (line_end ∷ s) hd (line-ends s) in
    let q : after is_digit t ≡ line_end ∷ s = after_is is_digit (d ∷ ds) (line_end ∷ s) hd (line-ends s) in
    rw (j, x, y, p, q, e) refl
    in
    go (w ++ (44 ∷ t)) refl m.first (m.rest ++ (44 ∷ t)) (ap (λ v. v ++ (44 ∷ t)) m.is)

rows-of : {s : List ℕ} {fs : List Entry} → Rows s fs → (n : ℕ) → length s < n → rows_of n s ≡ some fs
unfolding rows_of
rows-of no_row zero h = absurd (omega arith)
rows-of no_row (suc n) h = refl
rows-of (a-row {w} {s} d ds m hd r) zero h = absurd (omega arith)
rows-of (a-row {w} {s} d ds m hd r) (suc n) h =
    one-row n w d ds s m hd
    (rows-of r n (omega (arith, length-append w (44 ∷ ((d ∷ ds) ++ (line_end ∷ s))), length-append (d ∷ ds) (line_end ∷ s))))

-- ---- refused

abbrev pub BadList : String → Type 0
BadList list = (text : List ℕ) → Refuses most_bytes (words_for (length text)) (ascii list) text 21 0

no_rows : (list : String) → rows_of (suc (length (ascii list))) (ascii list) ≡ none → BadList list
no_rows list e text =
    bad-list (omega arith, omega arith)
    (λ fs h. no-some (sym e ∙ rows-of h.rows (suc (length (ascii list))) (omega arith)))

-- the last row has no byte 10
pub no-line-end : BadList "f,3"
unfolding opens rows_of comma_behind line_behind with_row
no-line-end = no_rows "f,3" refl

pub empty-row : BadList "f,3\n\n"
unfolding opens rows_of comma_behind line_behind with_row
empty-row = no_rows "f,3\n\n" refl

pub blank-in-row : BadList "f, 3\n"
unfolding opens rows_of comma_behind line_behind with_row
blank-in-row = no_rows "f, 3\n" refl

pub return-in-row : BadList "f,3\r\n"
unfolding opens rows_of comma_behind line_behind with_row
return-in-row = no_rows "f,3\r\n" refl

-- a code without digits, and with a minus
pub no_code : BadList "f,\n"
unfolding opens rows_of comma_behind line_behind with_row
no_code = no_rows "f,\n" refl

pub signed-code : BadList "f,-3\n"
unfolding opens rows_of comma_behind line_behind with_row
signed-code = no_rows "f,-3\n" refl

-- ---- rows that are no list

wrong-rows : (list : String) (fs : List Entry) → rows_of (suc (length (ascii list))) (ascii list) ≡ some fs → (Listed (ascii list) fs → ⊥) → BadList list
wrong-rows list fs e bad text =
    bad-list (omega arith, omega arith)
    (λ gs h.
    let i : some gs ≡ some fs = sym (rows-of h.rows (suc (length (ascii list))) (omega arith)) ∙ e in
    let j : gs ≡ fs = cc in
    bad (subst (Listed (ascii list)) j h))

pub large-code : BadList "f,65536\n"
unfolding opens rows_of comma_behind line_behind with_row
large-code = wrong-rows "f,65536\n" _ refl (λ h. let i = h.increasing in omega (arith, i.1))

pub code-twice : BadList "f,3\ng,3\n"
unfolding opens rows_of comma_behind line_behind with_row
code-twice = wrong-rows "f,3\ng,3\n" _ refl (λ h. let i = h.increasing in omega (arith, i.2))

pub name-twice : BadList "f,3\nf,4\n"
unfolding opens rows_of comma_behind line_behind with_row
name-twice = wrong-rows "f,3\nf,4\n" _ refl (λ h. let i = h.different in no-some (sym i.0))

first-name : {s w : List ℕ} {k : ℕ} {fs : List Entry} → Rows s (entry w k ∷ fs) → FieldName w
first-name (a-row d ds m hd r) = m

-- reserved
pub val-listed : BadList "val,3\n"
unfolding opens rows_of comma_behind line_behind with_row
val-listed = wrong-rows "val,3\n" _ refl (λ h. let i = (first-name h.rows).free in no-some (sym i))

pub seventeen-rows : BadList "a,1\nb,2\nc,3\nd,4\ne,5\nf,6\ng,7\nh,8\ni,9\nj,10\nk,11\nl,12\nm,13\nn,14\no,15\np,16\nq,17\n"
unfolding opens rows_of comma_behind line_behind with_row
seventeen-rows =
    wrong-rows "a,1\nb,2\nc,3\nd,4\ne,5\nf,6\ng,7\nh,8\ni,9\nj,10\nk,11\nl,12\nm,13\nn,14\no,15\np,16\nq,17\n" _ refl
    (λ h. omega (arith, h.few))
