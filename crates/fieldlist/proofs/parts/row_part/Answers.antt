-- `fieldlist::parts::row_part` meets its contract. Assumes nothing.
use Rattle.fieldlist.proofs.PartLaws.{bad-name, bad-code, named-row}
use Rattle.std.proofs.lemmas.Result.{err_from_is_err_and}
use Rattle.fieldlist.proofs.parts.row_part.Goals as goal

pub returns-in_err-end : goal.returns-in_err-end
returns-in_err-end c =
    let p = err_from_is_err_and c.from_residual.result c.from_residual.ensures.1 in
    rw (p.1, p.2) (bad-name _ _ c.args.last _ _ c.in_err-end.ensures)

pub returns-in_err-code : goal.returns-in_err-code
returns-in_err-code c =
    let p = err_from_is_err_and c.from_residual-in_err-code.result c.from_residual-in_err-code.ensures.1 in
    rw (p.1, p.2) (bad-code _ _ _ _ c.in_ok-end.ensures _ c.in_err-code.ensures)

pub returns : goal.returns
returns c = named-row _ _ _ _ c.in_ok-end.ensures _ c.in_ok-code.ensures
