-- `letters::numbers::number_of` meets its contract: what is summed and what is left make the whole number. Assumes nothing.
use Rattle.std.proofs.Common.{◌+◌}
use Rattle.letters.proofs.NumberLaws.{Summing}
use Rattle.letters.proofs.numbers.number_of.Given as goal

abbrev pub invariant-loop-b : goal.invariant-loop-b
invariant-loop-b l = Summing l.fn.text l.fn.from l.fn.to (l.fn.from + l.b-index) l.n
