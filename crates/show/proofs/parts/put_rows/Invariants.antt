-- `show::parts::put_rows` meets its contract. The invariant of its loop: the text of the first i rows stands. Assumes nothing.
use Prim.Native.Nat.{◌*◌}
use mathlib.Core.List.{flatten}
use Rattle.show.specs.Entries.{rows_in}
use Rattle.text.specs.Written.{Adds}
use Rattle.listed.specs.Listing.{row_lines}
use Rattle.show.proofs.parts.put_rows.Given as goal

abbrev pub invariant-loop-i : goal.invariant-loop-i
invariant-loop-i l = Adds (128 * l.i) l.initial.page (flatten (row_lines 1 (rows_in l.rows l.i))) l.page
