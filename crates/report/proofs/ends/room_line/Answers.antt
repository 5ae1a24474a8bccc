-- `report::ends::room_line` meets its contract. Two pieces in a row. Assumes nothing.
use Rattle.report.proofs.EndLaws.{room-wrote}
use Rattle.std.proofs.Common.{rules}
use Rattle.report.proofs.ends.room_line.Goals as goal

pub returns : goal.returns
returns c = search (rules, room-wrote)
