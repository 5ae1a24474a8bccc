-- `show::parts::put_cells` meets its contract. The invariant of its loop: the text of the first k cells stands. Assumes nothing.
use Prim.Native.Nat.{◌*◌}
use mathlib.Core.List.{flatten}
use Rattle.show.specs.Entries.{frames_up_to}
use Rattle.text.specs.Written.{Adds}
use Rattle.listed.specs.Listing.{cell_lines}
use Rattle.show.proofs.parts.put_cells.Given as goal

abbrev pub invariant-loop-k : goal.invariant-loop-k
invariant-loop-k l = Adds (128 * l.k) l.initial.page (flatten (cell_lines l.script 0 (frames_up_to l.ws l.k))) l.page
