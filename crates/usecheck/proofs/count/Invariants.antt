use Rattle.std.proofs.Common.{◌≡◌}
use Rattle.rules.specs.Image.{nodes_of}
use Rattle.checklaws.specs.Counts.{Counts}
use Rattle.usecheck.proofs.count.Given as goal

-- the uses by the nodes below n are counted
abbrev pub invariant-loop-n : goal.invariant-loop-n
invariant-loop-n l = record { last : l.n-end ≡ nodes_of l.image; counts : Counts l.image l.n l.uses }
