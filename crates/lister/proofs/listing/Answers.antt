-- `lister::listing` meets its contract. A refusal's line, or the text of the run that was traced. Assumes nothing.
use mathlib.Core.Path.{refl}
use native.Mathlib.Omega.{arith}
use Rattle.lister.proofs.Listed.{run-asks, listed-refused, listed-run}
use borrow.Author.Rules.{rules}
use Rattle.lister.proofs.listing.Goals as goal

pub run-requires-clause-room : goal.run-requires-clause-room
run-requires-clause-room c =
    (run-asks _ _ _ _ _ _ _ c.trace.ensures refl c.requires.choices_len_bound _ _ c.in-Ending.is c.args.page.now c.requires.room (search rules) (search rules)).0

pub run-requires-clause-in_bounds : goal.run-requires-clause-in_bounds
run-requires-clause-in_bounds c =
    (run-asks _ _ _ _ _ _ _ c.trace.ensures refl c.requires.choices_len_bound _ _ c.in-Ending.is c.args.page.now c.requires.room (search rules) (search rules)).1.0

pub run-requires-clause-size_in_bounds : goal.run-requires-clause-size_in_bounds
run-requires-clause-size_in_bounds c =
    (run-asks _ _ _ _ _ _ _ c.trace.ensures refl c.requires.choices_len_bound _ _ c.in-Ending.is c.args.page.now c.requires.room (search rules) (search rules)).1.1.0

pub run-requires-clause-steps_in_bounds : goal.run-requires-clause-steps_in_bounds
run-requires-clause-steps_in_bounds c =
    (run-asks _ _ _ _ _ _ _ c.trace.ensures refl c.requires.choices_len_bound _ _ c.in-Ending.is c.args.page.now c.requires.room (search rules) (search rules)).1.1.1

pub returns-in-Refusal : goal.returns-in-Refusal
returns-in-Refusal c = search (rules, listed-refused)

pub returns-in-Ending : goal.returns-in-Ending
returns-in-Ending c =
    listed-run _ _ _ _ _ _ _ c.trace.ensures refl c.requires.choices_len_bound _ _ c.in-Ending.is (λ i. omega (arith, c.shared_slice_known-1.given i)) refl _ _ c.run.ensures
