use Rattle.std.proofs.Common.{◌≡◌}
use Rattle.rules.specs.declared.Verdict.TheVariants.{Accepted}
use Rattle.rules.specs.Image.{fields_of}
use Rattle.checklaws.specs.Pieces.{code_rules, rules_say}
use Rattle.checker.proofs.codes.Given as goal

-- no code below i is wrong
abbrev pub invariant-loop-i : goal.invariant-loop-i
invariant-loop-i l =
    record { last : l.i-end ≡ fields_of l.image; none : rules_say l.image code_rules l.i ≡ Accepted }
