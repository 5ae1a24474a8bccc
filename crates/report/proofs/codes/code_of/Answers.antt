-- `report::codes::code_of` meets its contract. Index 0 is no field; any other is a position from 1. Assumes nothing.
use Rattle.report.proofs.CodeLaws.{code-of-none, code-of-some}
use Rattle.std.proofs.Common.{rules}
use Rattle.report.proofs.codes.code_of.Goals as goal

pub returns-then-f-eq0 : goal.returns-then-f-eq0
returns-then-f-eq0 c = search (rules, code-of-none)

pub returns : goal.returns
returns c = search (rules, code-of-some)
