-- What the code says of the script's file: which bytes stand where, on the page that is to be printed and in the lent list of choices. Assumes nothing.
use Rattle.std.specs.Prelude.{ℕ, ◌≡◌, Option as Answered, None, Some, List, ◌++◌, length, drop}
use Rattle.std.proofs.Math.Option.{Option, none, some}
use Rattle.io.specs.Counts.{IsPrefixLen}
use Rattle.text.specs.declared.Page.{Page}
use Rattle.text.specs.Written.{Adds}
use Rattle.rules.specs.declared.Answer.{Answer}
use Rattle.rules.specs.declared.Answer.TheVariants.{Refusal, Ending}
use Rattle.listed.specs.Listing.{end_line, refused_line}
use Rattle.chooser.specs.Makes.{makes}

-- a line of the listing
abbrev pub most_printed : ℕ
most_printed = 128

-- how many choices the file has, if one is made: the choices of the file and no other; what stood behind them stands
abbrev pub FileIs : Option (List ℕ) → Answered ℕ → List ℕ → List ℕ → Type 0
FileIs none f before after = (f ≡ None) × (after ≡ before)
FileIs (some cs) f before after = (f ≡ Some (length cs)) × (after ≡ cs ++ drop (length cs) before)

pub record AnswerSays (script : Option (List ℕ)) (r : Answered ℕ) (picks : List ℕ) (old : Page) (picks' : List ℕ) (new : Page) : Type 0 where
  pub printed : Adds most_printed old (makes script).printed new
  pub file : FileIs (makes script).file r picks picks'

-- ---- what the functions below and above it say

-- of the answer of a fair run, and how many choices it picked
abbrev pub line_for : Answer → List ℕ
line_for (Refusal k p) = refused_line k p
line_for (Ending e n) = end_line e n

abbrev pub file_for : Answer → ℕ → Answered ℕ
file_for (Refusal k p) picked = None
file_for (Ending e n) picked = Some picked

pub record TellSays (a : Answer) (picked : ℕ) (r : Answered ℕ) (old new : Page) : Type 0 where
  pub printed : Adds most_printed old (line_for a) new
  pub file : r ≡ file_for a picked

-- what was read of the file is not known there; the first bytes of the list are to be written
abbrev pub FileFits : Answered ℕ → List ℕ → Type 0
FileFits None picks = Unit {0}
FileFits (Some n) picks = IsPrefixLen n picks
