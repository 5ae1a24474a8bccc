-- What is left of the check once 10, 1, 2 and 3 have passed, group by group in the fixed order, with the names visible at the
-- root. Assumes nothing.
use Rattle.std.specs.Prelude.{ℕ, List}
use Rattle.rules.specs.declared.Verdict.{Verdict}
use Rattle.rules.specs.Image.{fields_of, nodes_of}
use Rattle.rules.specs.Scope.{Names}
use Rattle.rules.specs.Refusals.{or_else}
use Rattle.checklaws.specs.Pieces.{code_rules, node_rules, use_rules, rules_say, names_say}

unfoldable pub uses_say : Names → List ℕ → Verdict
uses_say visible img = or_else (rules_say img use_rules (nodes_of img)) (names_say visible img (nodes_of img))

unfoldable pub nodes_say : Names → List ℕ → Verdict
nodes_say visible img = or_else (rules_say img node_rules (nodes_of img)) (uses_say visible img)

unfoldable pub bodies_say : Names → List ℕ → Verdict
bodies_say visible img = or_else (rules_say img code_rules (fields_of img)) (nodes_say visible img)
