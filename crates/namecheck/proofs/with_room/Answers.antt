use Rattle.std.specs.Prelude.{refl}
use Rattle.checklaws.proofs.Handing.{from-root}
use Rattle.namecheck.proofs.with_room.Goals as goal

pub returns : goal.returns
returns g c = from-root _ _ _ _ _ _ c.from_last.ensures refl c.nodes.ensures.0 c.requires.roomy c.requires.formed
