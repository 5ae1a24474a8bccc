-- `capi::flagcopper_size` meets its contract: the number is the definitions' sum. Assumes nothing.
use mathlib.Core.Path.{refl}
use Rattle.capi.proofs.flagcopper_size.Goals as goal

pub returns : goal.returns
returns c = refl
