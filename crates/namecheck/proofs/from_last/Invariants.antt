use Rattle.std.proofs.Common.{◌≤◌, length}
use Rattle.rules.specs.Image.{nodes_of}
use Rattle.image.specs.Refusals.{verdict_of}
use Rattle.checklaws.proofs.Formed.{Down}
use Rattle.namecheck.proofs.from_last.Given as goal

-- the nodes from n up have handed down, and `lowest` is the answer for them
abbrev pub invariant-loop-n : goal.invariant-loop-n
invariant-loop-n l = record {
  below : l.n ≤ nodes_of l.bytes;
  room : nodes_of l.bytes ≤ length l.held;
  down : Down l.bytes l.initial.held l.n l.held (verdict_of l.lowest);
}
