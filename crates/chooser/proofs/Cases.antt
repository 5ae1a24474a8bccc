-- What `turns` makes, computed from the bytes: a missing file, a refused script, and a fair run with each of its ends. What must be picked was found by hand
-- from the order's sentences; for the two with branches, in FairCases of the crate fair. That a run without a step makes a file of no bytes is a law (SameEnd
-- no_bytes): to compute one from its 257 nodes takes too long. Assumes nothing.
use mathlib.Core.Path.{◌≡◌, refl}
use mathlib.Core.Option.{none, some}
use mathlib.Core.List.{[], ◌∷◌}
use lib.ListN.{replicate}
use Rattle.rules.specs.Published.{image}
use Rattle.rules.proofs.Writing.{four as node}
use Rattle.rules.proofs.Opens.{opens}
use Rattle.cases.proofs.CasesLimits.{allocating}
use Rattle.fair.proofs.FairCases.{fair-opens}
use Rattle.fair.proofs.FairScripts.{three_abreast, fault_beside}
use Rattle.text.specs.Ascii.{ascii}
use Rattle.text.specs.Text.{digit_count_by, digit_count, decimal, further, line}
use Rattle.listed.specs.Listing.{no_input, stop_words, end_words, end_line, refused_line}
use Rattle.chooser.specs.Makes.{made_by, makes}

-- opens what is made, as `opens` does the rules
unfoldable making : Unit {0}
unfolding opens fair-opens digit_count_by digit_count decimal further line no_input stop_words end_words end_line refused_line made_by makes
making = tt

-- missing; without bytes; with a tag that is none at node 3
pub no-file
    : (makes none ∷ makes (some []) ∷ makes (some (image [] (node 37 0 0 0 ∷ node 37 0 0 0 ∷ node 38 0 1 0 ∷ node 43 0 0 0 ∷ []) 0)) ∷ [])
    ≡ (record { printed = ascii "no input\n"; file = none }
    ∷ record { printed = ascii "refused 1 at 0\n"; file = none }
    ∷ record { printed = ascii "refused 5 at 3\n"; file = none }
    ∷ [])
unfolding making
no-file = refl

-- `{{var x; skip || var x; skip} || var x; skip}`
pub done : makes (some three_abreast) ≡ record { printed = ascii "end 1 steps 6\n"; file = some (0 ∷ 1 ∷ 2 ∷ 0 ∷ 0 ∷ 0 ∷ []) }
unfolding making
done = refl

-- `var x; {{skip; skip} || x = null - 1}`: the choice of the step that faults is in the file, its step isn't counted
pub fault : makes (some fault_beside) ≡ record { printed = ascii "end 2 fault 1 node 5 steps 2\n"; file = some (0 ∷ 0 ∷ 1 ∷ []) }
unfolding making
fault = refl

-- `var x; while true malloc(x)`: the var, 256 times the loop and its malloc, the loop; the choice of the malloc that there is no room for is in the file
pub room : makes (some allocating) ≡ record { printed = ascii "end 3 room 2 steps 514\n"; file = some (replicate 515 0) }
unfolding making
room = refl

-- `while true skip`
pub list_full : makes (some (image [] (node 16 0 0 0 ∷ node 37 0 0 0 ∷ node 39 0 1 0 ∷ []) 0)) ≡ record { printed = ascii "end 4 steps 4096\n"; file = some (replicate 4096 0) }
unfolding making
list_full = refl
