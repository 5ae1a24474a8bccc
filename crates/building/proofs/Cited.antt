-- The lemmas that functions name in their attributes, function by function. Assumes nothing.
use Rattle.building.proofs.BuildLaws.{one-node}

pub ruleset build_put_made_lemmas = (one-node)
