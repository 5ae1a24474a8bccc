-- `wording::lines::refused_line` meets its contract. Two pieces in a row. Assumes nothing.
use Rattle.wording.proofs.LineLaws.{refused-wrote}
use Rattle.std.proofs.Common.{rules}
use Rattle.wording.proofs.lines.refused_line.Goals as goal

pub returns : goal.returns
returns c = search (rules, refused-wrote)
