-- The list of fields that is written is read back as these fields; and the fields of codes, with words that are made up. Assumes nothing.
use Prim.Native.Nat.{ℕ, suc, ◌≤◌}
use mathlib.Core.Path.{◌≡◌, refl, sym, ap, subst, ◌∙◌}
use mathlib.Core.Bool.{true}
use mathlib.Core.List.{List, [], ◌∷◌, ◌++◌, map}
use lib.ListN.{length}
use Rattle.laws.specs.UpTo.{up_to}
use Rattle.rules.specs.Image.{most_fields}
use Rattle.rules.specs.Published.{Increasing}
use Rattle.grammar.specs.Classes.{line_end, is_digit}
use Rattle.grammar.specs.Places.{decimal, every}
use Rattle.grammar.specs.FieldList.{Entry, entry, word_of, code_of, FieldName, Rows, no_row, a-row, Different, Listed}
use Rattle.writing.specs.Spell.{decimal_of, Each, entries_for, list_of}
use Rattle.writing.proofs.Decimals.{says-number, decimal-digits}

-- ---- rows

all_digits : (d : ℕ) (ds : List ℕ) → is_digit d ≡ true → every is_digit ds ≡ true → every is_digit (d ∷ ds) ≡ true
unfolding every
all_digits d ds e h = rw e h

row_back : (w : List ℕ) (k : ℕ) (s : List ℕ) (fs : List Entry) → FieldName w → Rows s fs → Rows (w ++ (44 ∷ (decimal_of k ++ (line_end ∷ s)))) (entry w k ∷ fs)
row_back w k s fs n r =
    let v = decimal-digits k in
    let e = v.is in
    let p : decimal (v.first ∷ v.rest) ≡ k = ap decimal (sym e) ∙ says-number k in
    subst (λ m. Rows (w ++ (44 ∷ (decimal_of k ++ (line_end ∷ s)))) (entry w m ∷ fs)) p
    (rw e (a-row v.first v.rest n (all_digits v.first v.rest v.digit v.digits) r))

rows_back : (fs : List Entry) → Each FieldName (map word_of fs) → Rows (list_of fs) fs
unfolding list_of word_of
rows_back [] h = no_row
rows_back (entry w k ∷ fs) h = row_back w k (list_of fs) fs h.0 (rows_back fs h.1)

pub lists_back : (fs : List Entry) → length fs ≤ most_fields → Each FieldName (map word_of fs) → Different (map word_of fs) → Increasing 0 (map code_of fs)
    → Listed (list_of fs) fs
lists_back fs few names different increasing =
    record { rows = rows_back fs names; few = few; different = different; increasing = increasing }

-- ---- the fields of codes

pub words_of : (word : ℕ → List ℕ) (codes : List ℕ) → map word_of (entries_for word codes) ≡ up_to word (length codes)
unfolding entries_for word_of up_to
words_of word [] = refl
words_of word (k ∷ ks) = ap (word 0 ∷◌) (words_of (λ i. word (suc i)) ks)

pub codes-of : (word : ℕ → List ℕ) (codes : List ℕ) → map code_of (entries_for word codes) ≡ codes
unfolding entries_for code_of
codes-of word [] = refl
codes-of word (k ∷ ks) = ap (k ∷◌) (codes-of (λ i. word (suc i)) ks)

pub length-of : (word : ℕ → List ℕ) (codes : List ℕ) → length (entries_for word codes) ≡ length codes
unfolding entries_for
length-of word [] = refl
length-of word (k ∷ ks) = ap suc (length-of (λ i. word (suc i)) ks)
