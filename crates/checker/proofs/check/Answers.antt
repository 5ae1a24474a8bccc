-- The check is its groups in the fixed order: at each way out the earlier groups have passed, and the last one looked at has the answer.
use mathlib.Core.Path.{sym}
use Rattle.std.proofs.lemmas.Result.{err_from_is_err_and}
use Rattle.rules.proofs.Good.{good}
use Rattle.checklaws.proofs.BitLaws.{names_in, shows-some}
use Rattle.checklaws.proofs.Formed.{formed}
use Rattle.checklaws.proofs.Head.{sized}
use Rattle.checklaws.proofs.Whole.{at-head, at-codes, at-nodes, at-uses, at-names}
use Rattle.checker.proofs.check.Goals as goal

pub returns-in_err-image-clause-says : goal.returns-in_err-image-clause-says
returns-in_err-image-clause-says c = λ names s.
    let p = err_from_is_err_and c.from_residual.result c.from_residual.ensures.1 in
    rw (p.1, p.2) (at-head names _ _ _ _ c.in_err-image.ensures.says)

pub returns-in_err-codes-clause-says : goal.returns-in_err-codes-clause-says
returns-in_err-codes-clause-says c = λ names s.
    let p = err_from_is_err_and c.from_residual-in_err-codes.result c.from_residual-in_err-codes.ensures.1 in
    let h = rw (← c.in_ok-image.ensures.same) at c.in_ok-image.ensures.says in
    rw (p.1, p.2, ← c.in_ok-image.ensures.same) (at-codes names _ _ h _ _ c.in_err-codes.ensures)

pub returns-in_err-all_nodes-clause-says : goal.returns-in_err-all_nodes-clause-says
returns-in_err-all_nodes-clause-says c = λ names s.
    let p = err_from_is_err_and c.from_residual-in_err-all_nodes.result c.from_residual-in_err-all_nodes.ensures.1 in
    let h = rw (← c.in_ok-image.ensures.same) at c.in_ok-image.ensures.says in
    rw (p.1, p.2, ← c.in_ok-image.ensures.same) (at-nodes names _ _ h c.in_ok-codes.ensures _ _ c.in_err-all_nodes.ensures)

pub returns-in_err-all_uses-clause-says : goal.returns-in_err-all_uses-clause-says
returns-in_err-all_uses-clause-says c = λ names s.
    let p = err_from_is_err_and c.from_residual-in_err-all_uses.result c.from_residual-in_err-all_uses.ensures.1 in
    let h = rw (← c.in_ok-image.ensures.same) at c.in_ok-image.ensures.says in
    rw (p.1, p.2, ← c.in_ok-image.ensures.same) (at-uses names _ _ h c.in_ok-codes.ensures c.in_ok-all_nodes.ensures _ _ c.in_err-all_uses.ensures)

pub returns-in_err-all_names-clause-says : goal.returns-in_err-all_names-clause-says
returns-in_err-all_names-clause-says c = λ names s.
    let p = err_from_is_err_and c.from_residual-in_err-all_names.result c.from_residual-in_err-all_names.ensures.1 in
    let h = rw (← c.in_ok-image.ensures.same) at c.in_ok-image.ensures.says in
    rw (p.1, p.2, ← c.in_ok-image.ensures.same) (at-names names _ _ h c.in_ok-codes.ensures c.in_ok-all_nodes.ensures c.in_ok-all_uses.ensures _ (c.in_err-all_names.ensures names s))

pub all_names-requires : goal.all_names-requires
all_names-requires c =
    let h = rw (← c.in_ok-image.ensures.same) at c.in_ok-image.ensures.says in
    formed _ (sized _ _ h) c.in_ok-all_nodes.ensures c.in_ok-all_uses.ensures

pub invariant_of-result : goal.invariant_of-result
invariant_of-result c =
    let h = rw (← c.in_ok-image.ensures.same) at c.in_ok-image.ensures.says in
    let names = names_in c.args.visible in
    good names c.args.workspace_words c.in_ok-image.image
    (sym (at-names names _ _ h c.in_ok-codes.ensures c.in_ok-all_nodes.ensures c.in_ok-all_uses.ensures _ (c.in_ok-all_names.ensures names (shows-some c.args.visible))))

pub returns-clause-says : goal.returns-clause-says
returns-clause-says c = λ names s.
    let h = rw (← c.in_ok-image.ensures.same) at c.in_ok-image.ensures.says in
    rw (← c.in_ok-image.ensures.same) (at-names names _ _ h c.in_ok-codes.ensures c.in_ok-all_nodes.ensures c.in_ok-all_uses.ensures _ (c.in_ok-all_names.ensures names s))
