-- `building::finish::put_image` meets its contract: the head before the nodes, and a copy. Assumes nothing.
use Prim.Native.Nat.{ℕ, ◌+◌, ◌*◌}
use mathlib.Core.Path.{ap}
use mathlib.Core.List.{List, ◌++◌}
use lib.ListN.{drop, length}
use Rattle.building.proofs.FinishLaws.{image-out}
use Rattle.building.proofs.finish.put_image.Goals as goal

pub returns-clause-out : goal.returns-clause-out
returns-clause-out c =
    image-out c.args.img.now c.args.codes.now _ c.args.out.now _ c.args.nodes c.args.names c.requires.img_len.0 c.requires.few.0 c.requires.few.1 c.put_head.ensures
    (ap (λ (x : List ℕ). x ++ drop (10 + 2 * length c.args.codes.now + 8 * c.args.nodes) c.args.out.now) c.copy_from_slice.ensures.after)
