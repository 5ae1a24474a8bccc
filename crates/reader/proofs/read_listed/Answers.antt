-- `reader::read_listed` meets its contract: the text is read, the words are cleared, and the image goes out. Assumes nothing.
use Prim.Native.Nat.{ℕ, ◌+◌, ◌*◌}
use mathlib.Core.Path.{refl, ap, subst}
use lib.ListN.{take}
use Rattle.std.specs.Prelude.{Result}
use Rattle.reader.specs.declared.ReadError.{ReadError}
use Rattle.reader.specs.Says.{Tells}
use Rattle.reader.proofs.ReadLaws.{told-of, handed}
use Rattle.reader.proofs.read_listed.Goals as goal

pub returns : goal.returns
returns c =
    let b = c.new-reading.ensures in
    let k = c.read_all-read.ensures in
    let t = c.read_all-read.new.self in
    handed c.args.list.now c.args.text.now c.args.rows.now c.requires.right_rows (10 + 2 * c.args.rows.now.count) c.args.work.now _ _ _ c.args.out.now t b.past c.clear.ensures _ _ _ _
    (subst (λ (q : Result Unit ReadError). Tells c.args.list.now c.args.text.now c.args.rows.now (10 + 2 * c.args.rows.now.count) c.new-reading.new.work q t c.read_all-read.new.work) c.in_ok-read.was (told-of b k))
    refl (ap (take c.args.rows.now.count) c.narrow-codes.ensures) c.put_image.ensures
