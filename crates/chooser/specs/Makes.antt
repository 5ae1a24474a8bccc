-- What the program `turns` makes of a script's file, which is there with its bytes, also with none, or missing: what is printed, and the choice file or none.
-- Document 02, order 4: "Add a run that picks the choices .. The choices picked .. go to a lent list ..; the base run on them ends the same." The lines are
-- the listing's own. No file and a file of no bytes are two things: an accepted script whose root is too large as opened picks nothing. Assumes nothing.
use Rattle.std.specs.Prelude.{ℕ, List, []}
use Rattle.std.proofs.Math.Option.{Option, none, some}
use Rattle.rules.specs.declared.Verdict.{Verdict}
use Rattle.rules.specs.declared.Verdict.TheVariants.{Accepted, Refused}
use Rattle.rules.specs.State.{size, Store}
use Rattle.rules.specs.Refusals.{check}
use Rattle.rules.specs.Script.{root_of}
use Rattle.rules.specs.Run.{Ran, bare, machine}
use Rattle.fair.specs.FairRun.{picks, fair}
use Rattle.listed.specs.Listing.{end_line, refused_line, no_input}

-- as many as the listing takes
abbrev pub most_picks : ℕ
most_picks = 4096

pub record Made : Type 0 where
  pub printed : List ℕ
  pub file : Option (List ℕ)  -- none: no file is made, and one that is there stays as it was

-- by the check, the fair run and the choices that it picked
unfoldable pub made_by : Verdict → Ran Store → List ℕ → Made
made_by Accepted r cs = record { printed = end_line r.end r.steps; file = some cs }
made_by (Refused k p) r cs = record { printed = refused_line k p; file = none }

-- with a workspace of the right size, and room for `most_picks` choices
unfoldable pub makes : Option (List ℕ) → Made
makes none = record { printed = no_input; file = none }
makes (some img) = made_by (check [] size img) (fair (machine img) most_picks bare (root_of img)) (picks (machine img) most_picks bare (root_of img))
