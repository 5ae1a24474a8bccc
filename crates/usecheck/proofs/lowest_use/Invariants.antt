use Rattle.std.proofs.Common.{◌≡◌}
use Rattle.rules.specs.declared.Verdict.TheVariants.{Accepted}
use Rattle.rules.specs.Image.{nodes_of}
use Rattle.checklaws.specs.Pieces.{use_rules, rules_say}
use Rattle.usecheck.proofs.lowest_use.Given as goal

-- no node below n is used wrongly
abbrev pub invariant-loop-n : goal.invariant-loop-n
invariant-loop-n l =
    record { last : l.n-end ≡ nodes_of l.image; none : rules_say l.image use_rules l.n ≡ Accepted }
