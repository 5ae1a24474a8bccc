-- `text::Page::put_signed` meets its contract. Below zero a minus sign stands before the number's size. Assumes nothing.
use Rattle.text.proofs.SignedLaws.{signed_up, signed-down}
use Rattle.std.proofs.Common.{◌∙◌, w32}
use Rattle.std.proofs.lemmas.Int.{to_z-of_z}
use Rattle.text.proofs.Page.put_signed.Goals as goal
use Rattle.text.proofs.Page.put_signed.Goals.{then-n-lt0, else-n-lt0}

pub returns : goal.returns
returns c =
    let back = to_z-of_z w32 c.args.n c.ranges.n in
    let size = c.from.ensures ∙ c.unsigned_abs.ensures.value in
    rw (← back) elim c.if-n-lt0.branch [
      | then-n-lt0 w ↦ signed-down _ _ _ _ _ w.if-n-lt0.true size w.put_text.ensures (rw w.self-is at c.put_decimal.ensures)
      | else-n-lt0 w ↦ signed_up _ _ _ _ w.if-n-lt0.false size (rw w.self-is at c.put_decimal.ensures)
    ]
