-- `lister::answer` meets its contract. One law for each way. Assumes nothing.
use Rattle.std.proofs.Common.{arith, refl}
use Rattle.listed.specs.Listing.{printed}
use Rattle.lister.proofs.Printed.{answers-none, answers-listing, answers-long}
use Rattle.lister.proofs.answer.Goals as goal
use Rattle.lister.proofs.answer.Goals.{in_default-via-in-Some+in_default, in_default-via-in_default}

pub returns-in_default : goal.returns-in_default
unfolding printed
returns-in_default c = elim c.in_default.branch [
  | in_default-via-in-Some+in_default w ↦ answers-none _ _ _ _ _ _ w.in_default.is-0 w.in_default.is-1 refl c.no_input.ensures
  | in_default-via-in_default w ↦ answers-none _ _ _ _ _ _ w.in_default.is-0 refl refl c.no_input.ensures
]

pub returns-then-choices-gt-MOST_CHOICES : goal.returns-then-choices-gt-MOST_CHOICES
returns-then-choices-gt-MOST_CHOICES c =
    answers-long _ _ _ _ _ _ c.in-Some-Some.is-0 c.in-Some-Some.is-1 c.if-choices-gt-MOST_CHOICES.true c.choices_too_long.ensures

pub returns : goal.returns
returns c =
    answers-listing _ _ _ _ _ _ c.in-Some-Some.is-0 c.in-Some-Some.is-1 (omega (arith, c.if-choices-gt-MOST_CHOICES.false)) c.listing.ensures
