-- `fieldlist::parts::code_part` meets its contract. Assumes nothing.
use Rattle.fieldlist.proofs.PartLaws.{no-comma, behind-comma, no_digit, no-line-end, code-wrong, code_read}
use Rattle.std.proofs.Common.{rules}
use Rattle.std.proofs.lemmas.Result.{err_from_is_err_and}
use Rattle.fieldlist.proofs.parts.code_part.Goals as goal

pub returns-then-lacks : goal.returns-then-lacks
returns-then-lacks c = search (rules, no-comma)

pub number_end-e-requires : goal.number_end-e-requires
number_end-e-requires c = search (rules, behind-comma)

pub returns-then-e-start : goal.returns-then-e-start
returns-then-e-start c = search (rules, no_digit)

pub returns-then-lacks-2 : goal.returns-then-lacks-2
returns-then-lacks-2 c = search (rules, no-line-end)

pub returns-in_err-in_order : goal.returns-in_err-in_order
returns-in_err-in_order c =
    let p = err_from_is_err_and c.from_residual.result c.from_residual.ensures.1 in
    rw
    (p.1, p.2)
    (code-wrong _ _ _ c.lacks.ensures c.number_end-e.ensures.0 c.lacks-2.ensures c.if-lacks.false c.if-e-start.false c.if-lacks-2.false c.number_of-code.ensures.0 _ c.in_err-in_order.ensures)

pub returns : goal.returns
returns c =
    code_read _ _ _ c.lacks.ensures c.number_end-e.ensures.0 c.lacks-2.ensures c.if-lacks.false c.if-e-start.false c.if-lacks-2.false c.number_of-code.ensures.0 c.in_ok-in_order.ensures
