-- What a call on the nodes adds to them. Assumes nothing.
use Rattle.std.specs.Prelude.{◌≡◌, List}
use Rattle.reading.specs.Items.{Item}
use Rattle.building.specs.Built.{Adds}
use Rattle.building.specs.declared.nodes.Nodes.{Nodes}

-- these nodes come behind those that are there, whichever they are, and all begin where they did
abbrev pub Grows : List Item → Nodes → Nodes → Type 0
Grows js s t = Adds js s.start s.count t.count s.image s.firsts t.image t.firsts × (t.start ≡ s.start)
