-- `reader::text::Reading::read_all` meets its contract: before each place it stands under what was read. Assumes nothing.
use Prim.Native.Nat.{◌-◌}
use lib.ListN.{length}
use Rattle.reader.specs.Steps.{SameText, UnderReading}
use Rattle.reader.proofs.text.Reading.read_all.Given as goal

abbrev pub invariant-places : goal.invariant-places
invariant-places l = record {
  same : SameText l.initial.self l.self;
  under : UnderReading l.self l.self.place.to l.self.place.line l.initial.work l.work;
}

abbrev pub decreases-places : goal.decreases-places
decreases-places l = length l.self.text.now - l.self.place.to
