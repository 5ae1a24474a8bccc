use Rattle.namecheck.proofs.Shapes.{shapes}
use Rattle.checklaws.proofs.Handing.{visiting}
use Rattle.namecheck.proofs.visit.Goals as goal

pub returns-in-Some : goal.returns-in-Some
returns-in-Some c = λ visible h. search (shapes, visiting)
