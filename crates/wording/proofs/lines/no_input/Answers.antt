-- `wording::lines::no_input` meets its contract. The text is the line. Assumes nothing.
use Rattle.wording.proofs.LineLaws.{no-input-wrote}
use Rattle.std.proofs.Common.{rules}
use Rattle.wording.proofs.lines.no_input.Goals as goal

pub returns : goal.returns
returns c = search (rules, no-input-wrote)
