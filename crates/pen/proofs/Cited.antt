-- The lemmas that proofs cite by #[tactic(using)], a set for each function. Assumes nothing.
use Rattle.pen.proofs.DrawLaws.{keeps-same, puts_one, puts_over, puts_past}
use Rattle.pen.proofs.MarkLaws.{no_mark, mark_there}
use Rattle.pen.proofs.GapLaws.{gap_first, gap_tight, gap_blank, gap_past}

pub ruleset put_lemmas = (puts_one, puts_over, puts_past)

pub ruleset put_gap_lemmas = (gap_first, gap_tight, gap_blank, gap_past)

pub ruleset put_mark_lemmas = (no_mark, mark_there)
