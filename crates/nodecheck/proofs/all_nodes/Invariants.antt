use Rattle.std.proofs.Common.{◌≡◌}
use Rattle.rules.specs.declared.Verdict.TheVariants.{Accepted}
use Rattle.rules.specs.Image.{nodes_of}
use Rattle.checklaws.specs.Pieces.{node_rules, rules_say}
use Rattle.nodecheck.proofs.all_nodes.Given as goal

-- no node below n is wrong
abbrev pub invariant-loop-n : goal.invariant-loop-n
invariant-loop-n l = record {
  last : l.n-end ≡ nodes_of l.image;
  none : rules_say l.image node_rules l.n ≡ Accepted;
}
