-- `capi::flagcopper_check` meets its contract: the verdict of `interpreter::check`, said in numbers. Assumes nothing.
use Rattle.capi.proofs.flagcopper_check.Goals as goal

pub returns : goal.returns
returns c = rw c.check.ensures.verdict at c.from.ensures
