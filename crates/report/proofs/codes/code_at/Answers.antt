-- `report::codes::code_at` meets its contract. Two bytes, the low one first. Assumes nothing.
use Rattle.report.proofs.CodeLaws.{code-at-is}
use Rattle.std.proofs.Common.{rules}
use Rattle.report.proofs.codes.code_at.Goals as goal

pub returns : goal.returns
returns c = search (rules, code-at-is)
