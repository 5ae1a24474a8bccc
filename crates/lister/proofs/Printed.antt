-- What is printed for two files: a missing one before the number of choices, and that before the script. Assumes nothing.
use Prim.Native.Nat.{ℕ, ◌<◌, ◌≤◌}
use mathlib.Core.Path.{◌≡◌, sym}
use mathlib.Core.Option.{some}
use mathlib.Core.List.{List}
use native.Mathlib.Omega.{arith}
use lib.ListN.{length}
use borrow.Author.Tests.{le-leb, lt-leb}
use Rattle.listed.specs.Listing.{no_input, choices_too_long, listing, most_choices, printed}
use Rattle.std.specs.Prelude.{Option, Some, None}
use Rattle.std.proofs.Common.{Bor}
use Rattle.text.specs.declared.Page.{Page}
use Rattle.text.specs.Written.{Adds}
use Rattle.text.proofs.WroteLaws.{adds_as}
use Rattle.filing.specs.Given.{given}

pub printed-whole : (img cs : List ℕ) → length cs ≤ 4096 → printed (some img) (some cs) ≡ listing img cs
unfolding printed most_choices
printed-whole img cs h = rw (le-leb (length cs) 4096 h)

pub printed-long : (img cs : List ℕ) → 4096 < length cs → printed (some img) (some cs) ≡ choices_too_long
unfolding printed most_choices
printed-long img cs h = rw (lt-leb (length cs) 4096 h)

-- ---- one law for each way

module _ (script choices : Option (Bor (List ℕ))) (d o : Page) where
  pub answers-none : (s t : Option (Bor (List ℕ))) → script ≡ s → choices ≡ t → (printed (given s) (given t) ≡ no_input) → Adds 128 d no_input o
      → Adds 1179904 d (printed (given script) (given choices)) o
  answers-none s t e f i w = adds_as 128 1179904 d o no_input _ w (rw (e, f) (sym i)) (omega arith)

  pub answers-listing : (img cs : Bor (List ℕ)) → script ≡ Some img → choices ≡ Some cs → length cs.now ≤ 4096 → Adds 1179904 d (listing img.now cs.now) o
      → Adds 1179904 d (printed (given script) (given choices)) o
  answers-listing img cs e f h w =
      adds_as 1179904 1179904 d o (listing img.now cs.now) _ w (rw (e, f) (sym (printed-whole img.now cs.now h))) (omega arith)

  pub answers-long : (img cs : Bor (List ℕ)) → script ≡ Some img → choices ≡ Some cs → 4096 < length cs.now → Adds 128 d choices_too_long o
      → Adds 1179904 d (printed (given script) (given choices)) o
  answers-long img cs e f h w =
      adds_as 128 1179904 d o choices_too_long _ w (rw (e, f) (sym (printed-long img.now cs.now h))) (omega arith)
