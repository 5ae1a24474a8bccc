-- `filing::put_part_name` meets its contract: the name, and the ending behind it. Assumes nothing.
use Rattle.std.proofs.Common.{rules}
use Rattle.filing.proofs.NameLaws.{part-adds}
use Rattle.filing.proofs.put_part_name.Goals as goal

pub returns : goal.returns
returns c = search (rules, part-adds)
