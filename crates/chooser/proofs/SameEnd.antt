-- What the choice file is good for: document 02, order 4, "the base run on them ends the same". The listing of a script with the file that `turns` made of it is a
-- run's, never `choices too long`, and the line of its end is the line that `turns` printed. A script that is accepted and makes no step, its root too
-- large as opened, makes a file of no bytes. Assumes nothing.
use Prim.Native.Nat.{ℕ, ◌≤◌}
use mathlib.Core.Path.{◌≡◌, refl, sym, ap, subst, ◌∙◌}
use mathlib.Core.Option.{none, some, some-injective, none-ne-some}
use mathlib.Core.List.{List, [], ◌∷◌, ◌++◌, flatten}
use lib.ListN.{length}
use borrow.Author.Tests.{le-leb}
use Rattle.rules.specs.declared.Verdict.{Verdict}
use Rattle.rules.specs.declared.Verdict.TheVariants.{Accepted, Refused}
use Rattle.rules.specs.State.{size}
use Rattle.rules.specs.Refusals.{check}
use Rattle.rules.specs.Script.{root_of}
use Rattle.rules.specs.Run.{bare, machine, ran, run_script}
use Rattle.rules.specs.Numbers.{stop_no, end_no}
use Rattle.safety.specs.Reaches.{StartTooLarge}
use Rattle.fair.specs.FairRun.{picks, fair}
use Rattle.fair.proofs.Ending.{picked-few, picks-too-large, fair-too-large}
use Rattle.words.specs.Lent.{rows_of}
use Rattle.text.specs.Ascii.{ascii}
use Rattle.text.specs.Text.{digit_count_by, digit_count, decimal, further, line}
use Rattle.listed.specs.Listing.{header_line, row_lines, stop_words, end_words, end_line, cell_lines, object_lines, run_lines, lines_by, listing_lines, listing, most_choices, printed}
use Rattle.chooser.specs.Makes.{most_picks, made_by, makes}

module _ (img : List ℕ) where
  abbrev picked : List ℕ
  picked = picks (machine img) most_picks bare (root_of img)

  pub made-accepted : check [] size img ≡ Accepted → makes (some img) ≡ record { printed = end_line (run_script img picked).end (run_script img picked).steps; file = some picked }
  unfolding makes made_by fair run_script
  made-accepted e = rw e

  -- a file is made of an accepted script alone, and holds the choices picked
  pub made-file : (cs : List ℕ) → (makes (some img)).file ≡ some cs → (check [] size img ≡ Accepted) × (cs ≡ picked)
  unfolding makes made_by
  made-file cs e = go (check [] size img) refl
    where
      go : (v : Verdict) → check [] size img ≡ v → (check [] size img ≡ Accepted) × (cs ≡ picked)
      go Accepted i = let f : some picked ≡ some cs = rw i at e in (i, sym (some-injective picked cs f))
      go (Refused k p) i = let f : none ≡ some cs = rw i at e in absurd (none-ne-some cs f)

  listed-whole : (cs : List ℕ) → length cs ≤ 4096 → check [] size img ≡ Accepted → printed (some img) (some cs) ≡ flatten (run_lines img (rows_of img cs) (run_script img cs))
  unfolding printed most_choices listing listing_lines lines_by
  listed-whole cs h e = rw (le-leb (length cs) 4096 h, e)

  pub listed-with-file : (cs : List ℕ) → (makes (some img)).file ≡ some cs
      → printed (some img) (some cs)
      ≡ flatten
      (header_line
      ∷ (row_lines 1 (rows_of img cs)
      ++ ((makes (some img)).printed ∷ (cell_lines img 0 (run_script img cs).store.frames ++ object_lines img 0 (run_script img cs).store.objects))))
  unfolding run_lines
  listed-with-file cs e =
      let f = made-file cs e in
      let few : length cs ≤ 4096 = subst (λ (l : List ℕ). length l ≤ 4096) (sym f.1) (picked-few (machine img) most_picks bare (root_of img)) in
      let line-is : (makes (some img)).printed ≡ end_line (run_script img cs).end (run_script img cs).steps = ap (λ m. m.printed) (made-accepted f.0) ∙ rw f.1 in
      listed-whole cs few f.0 ∙ rw line-is

  pub no_bytes : check [] size img ≡ Accepted → StartTooLarge (machine img) bare (root_of img) → makes (some img) ≡ record { printed = ascii "end 3 room 3 steps 0\n"; file = some [] }
  unfolding makes made_by ran end_line end_no end_words stop_no stop_words line further decimal digit_count digit_count_by
  no_bytes e h = rw (e, fair-too-large (machine img) most_picks bare (root_of img) h, picks-too-large (machine img) most_picks bare (root_of img) h)
