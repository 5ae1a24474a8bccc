-- The words in which the promises are said: an answer by document 01's numbers (`Numbers` of the rules), acceptance, the start
-- of a run, and its moments. Assumes nothing.
use Rattle.std.specs.Prelude.{ℕ, ◌≡◌, List, [], ◌∷◌, ◌++◌}
use Rattle.std.proofs.Math.Option.{Option}
use Rattle.rules.specs.declared.Answer.{Answer}
use Rattle.rules.specs.State.{Store}
use Rattle.rules.specs.Script.{root_of}
use Rattle.rules.specs.Refusals.{check}
use Rattle.rules.specs.Control.{Control}
use Rattle.rules.specs.Run.{machine, bare}
use Rattle.rules.specs.Numbers.{verdict_numbers, refused_with, ended_with, answer_numbers}
use Rattle.safety.specs.Reaches as Reaches

-- the answer is the refusal k at place p
abbrev pub Refuses : Answer → ℕ → ℕ → Type 0
Refuses a k p = answer_numbers a ≡ refused_with (k ∷ p ∷ [])

-- the answer is the end e, with these values, after n steps
abbrev pub Ends : Answer → ℕ → List ℕ → ℕ → Type 0
Ends a e values n = answer_numbers a ≡ ended_with (e ∷ (values ++ (n ∷ [])))

-- with so many words for a run, `check` gives no refusal
abbrev pub Accepts : ℕ → List ℕ → Type 0
Accepts words img = verdict_numbers (check [] words img) ≡ []

-- the start needs no part past the limit; or it does
abbrev pub StartFits : List ℕ → Type 0
StartFits img = Reaches.StartFits (machine img) bare (root_of img)

abbrev pub StartTooLarge : List ℕ → Type 0
StartTooLarge img = Reaches.StartTooLarge (machine img) bare (root_of img)

-- a moment of the run, from the start to the stop: this store, and this control
abbrev pub At : List ℕ → List ℕ → Store → Option Control → Type 0
At img choices s o = Reaches.Moment (machine img) bare (root_of img) choices s o
