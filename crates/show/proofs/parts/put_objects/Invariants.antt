-- `show::parts::put_objects` meets its contract. The invariant of its loop: the text of the first o objects stands. Assumes nothing.
use Prim.Native.Nat.{◌*◌}
use mathlib.Core.List.{flatten}
use Rattle.show.specs.Entries.{objects_up_to}
use Rattle.text.specs.Written.{Adds}
use Rattle.listed.specs.Listing.{object_lines}
use Rattle.show.proofs.parts.put_objects.Given as goal

abbrev pub invariant-loop-o : goal.invariant-loop-o
invariant-loop-o l = Adds (2048 * l.o) l.initial.page (flatten (object_lines l.script 0 (objects_up_to l.script l.ws l.o))) l.page
