-- `show::parts::put_object` meets its contract. The invariant of its loop: the text of the first i fields stands. Assumes nothing.
use Prim.Native.Nat.{◌*◌}
use mathlib.Core.List.{flatten}
use Rattle.show.specs.Entries.{fields_up_to}
use Rattle.text.specs.Written.{Adds}
use Rattle.listed.specs.Listing.{field_lines}
use Rattle.show.proofs.parts.put_object.Given as goal

abbrev pub invariant-loop-i : goal.invariant-loop-i
invariant-loop-i l = Adds (128 * l.i) l.initial.page (flatten (field_lines l.script l.o 0 (fields_up_to l.ws l.o l.i))) l.page
