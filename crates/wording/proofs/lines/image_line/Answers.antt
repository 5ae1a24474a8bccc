-- `wording::lines::image_line` meets its contract. Two pieces in a row. Assumes nothing.
use Rattle.wording.proofs.LineLaws.{image-wrote}
use Rattle.std.proofs.Common.{rules}
use Rattle.wording.proofs.lines.image_line.Goals as goal

pub returns : goal.returns
returns c = search (rules, image-wrote)
