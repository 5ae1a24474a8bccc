-- What a caller in C or Rust is told: the answers as numbers, through document 01's numbers and values for each of their
-- cases (module Numbers of the crate rules). A number that an answer doesn't have is 0, which means nothing there: a
-- refusal has no end, an end no refusal; so zeros alone are no answer. Places and nodes count from 0, so one that an
-- answer doesn't have is `nowhere`: an accepted script has no place, and only a fault has a node. Assumes nothing.
use Rattle.std.specs.Prelude.{ℕ, ◌≡◌, List, get_or}
use Rattle.rules.specs.declared.Verdict.{Verdict}
use Rattle.rules.specs.declared.Verdict.TheVariants.{Accepted, Refused}
use Rattle.rules.specs.declared.Answer.{Answer}
use Rattle.rules.specs.declared.Answer.TheVariants.{Refusal, Ending}
use Rattle.rules.specs.Numbers.{end_no, end_values, verdict_numbers}
use Rattle.turnwords.specs.declared.Turned.{Turned}
use Rattle.turnwords.specs.FairContract.{Fairly}
pub use Rattle.told.specs.declared.Checked.{Checked}
pub use Rattle.told.specs.declared.Told.{Told}
pub use Rattle.told.specs.declared.Fair.{Fair}

-- no place and no node: the largest number of 32 bits, far above each
unfoldable pub nowhere : ℕ
nowhere = 4294967295

-- a number, which comes first, and the place or node after it
unfoldable pub number_in : List ℕ → ℕ
number_in values = get_or values 0 0

unfoldable pub place_in : List ℕ → ℕ
place_in values = get_or values 1 nowhere

-- accepted and refused, as a number of our own
unfoldable pub verdict_no : Verdict → ℕ
verdict_no Accepted = 1
verdict_no (Refused k p) = 2

unfoldable pub checked_of : Verdict → Checked
checked_of v = record { verdict = verdict_no v; number = number_in (verdict_numbers v); place = place_in (verdict_numbers v) }

unfoldable pub told_of : Answer → Told
told_of (Refusal k p) = record { refusal = k; place = p; end = 0; number = 0; node = nowhere; steps = 0 }
told_of (Ending e n) =
    record { refusal = 0; place = nowhere; end = end_no e; number = number_in (end_values e); node = place_in (end_values e); steps = n }

-- the answer of a fair run, every choice that it picked and every word are the contract's (module FairContract of the crate turnwords)
pub record TellsFair (img : List ℕ) (f : Fair) (lent lent' before after : List ℕ) : Type 0 where
  pub turned : Turned
  pub told : f.told ≡ told_of turned.answer
  pub picked : f.picked ≡ turned.picked
  pub says : Fairly img turned lent lent' before after
