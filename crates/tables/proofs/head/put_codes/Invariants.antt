use mathlib.Core.Path.{◌≡◌}
use mathlib.Core.List.{flatten}
use mathlib.Core.List.{map}
use lib.ListN.{length}
use lib.ListN.{take}
use lib.Seq.{sets}
use Rattle.rules.specs.Published.{bytes_of}
use Rattle.tables.proofs.head.put_codes.Given as goal

abbrev pub invariant-loop-i : goal.invariant-loop-i
invariant-loop-i l = (length l.img ≡ length l.initial.img) × (l.img ≡ sets l.initial.img 10 (flatten (map bytes_of (take l.i l.codes))))
