use Rattle.checklaws.proofs.Head.{contents}
use Rattle.checker.proofs.contents_wrong.Goals as goal

pub returns : goal.returns
returns c = search contents
