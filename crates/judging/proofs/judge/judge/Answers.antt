-- `judging::judge::judge` meets its contract: each answer by its law. Assumes nothing.
use Rattle.std.proofs.Common.{rules}
use Rattle.std.proofs.lemmas.Result.{err_from_is_err_and}
use Rattle.judging.proofs.JudgeLaws.{taker-is-due, taker-inside, new-fits, judged-bad-byte, judged-order, judged-worthless, judged-known, judged-new}
use Rattle.judging.proofs.judge.judge.Goals as goal

pub returns-then-kind-eq-BAD_BYTE : goal.returns-then-kind-eq-BAD_BYTE
returns-then-kind-eq-BAD_BYTE c = λ at line f. judged-bad-byte _ _ at line _ _ _ _ c.if-kind-eq-BAD_BYTE.true

pub returns-in_default : goal.returns-in_default
returns-in_default c = λ at line f. judged-order _ _ at line _ _ _ _ _ c.if-kind-eq-BAD_BYTE.false c.taker.ensures c.in_default.is

pub offset_bounds-work-at : goal.offset_bounds-work-at
offset_bounds-work-at c =
    let inside = taker-inside _ _ _ _ _ c.requires.standing c.taker.ensures c.in-Some.is in
    search (rules, inside)

pub bounds-work-at : goal.bounds-work-at
bounds-work-at c = taker-inside _ _ _ _ _ c.requires.standing c.taker.ensures c.in-Some.is

pub returns-in_err-value : goal.returns-in_err-value
returns-in_err-value c = λ at line f.
    let p = err_from_is_err_and c.from_residual.result c.from_residual.ensures.1 in
    rw (p.1, p.2) (judged-worthless _ _ at line _ _ _ _ _ _ _ c.taker.ensures c.in-Some.is _ c.in_err-value.ensures)

pub decide-requires-clause-due : goal.decide-requires-clause-due
decide-requires-clause-due c = taker-is-due _ _ _ _ _ c.requires.standing c.taker.ensures c.in-Some.is

pub decide-requires-in-New-clause-due : goal.decide-requires-in-New-clause-due
decide-requires-in-New-clause-due c = taker-is-due _ _ _ _ _ c.requires.standing c.taker.ensures c.in-Some.is

pub decide-requires-in-New-clause-name_fits : goal.decide-requires-in-New-clause-name_fits
decide-requires-in-New-clause-name_fits c = new-fits _ _ _ _ _ _ (rw c.in-New.is at c.in_ok-value.ensures)

pub returns-in-Known : goal.returns-in-Known
returns-in-Known c = λ at line f. judged-known _ _ at line _ _ _ _ _ _ _ c.taker.ensures c.in-Some.is _ _ (rw c.in-Known.is at c.in_ok-value.ensures) c.decide.ensures

pub returns-in-New : goal.returns-in-New
returns-in-New c = λ at line f. judged-new _ _ at line _ _ _ _ _ _ _ c.taker.ensures c.in-Some.is _ (rw c.in-New.is at c.in_ok-value.ensures) c.decide-in-New.ensures
