-- `show::run` meets its contract. Five parts in a row. Assumes nothing.
use Rattle.show.proofs.Whole.{run-wrote}
use Rattle.std.proofs.Common.{rules}
use Rattle.show.proofs.run.Goals as goal

pub returns : goal.returns
returns c = search (rules, run-wrote)
