-- `capi::flagcopper_fair` meets its contract: the answer of `interpreter::fair`, told in numbers. Assumes nothing.
use Rattle.capi.proofs.flagcopper_fair.Goals as goal

pub returns : goal.returns
returns c = record { turned = c.fair.result; told = c.from.ensures.0; picked = c.from.ensures.1; says = c.fair.ensures }
