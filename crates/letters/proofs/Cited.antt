-- The lemmas that proofs cite by #[tactic(using)], a set for each function. Assumes nothing.
use Rattle.letters.proofs.RunLaws.{number-stops}

pub ruleset runs_number_end_lemmas = (number-stops)
