-- `capi::flagcopper_trace` meets its contract: the answer of `interpreter::trace`, told in numbers. Assumes nothing.
use Rattle.capi.proofs.flagcopper_trace.Goals as goal

pub returns-clause-value : goal.returns-clause-value
returns-clause-value c =
    let says = c.trace.ensures in
    rw says.answer at c.from.ensures

pub returns-clause-workspace_after : goal.returns-clause-workspace_after
returns-clause-workspace_after c =
    let says = c.trace.ensures in
    says.words

pub returns-clause-rows_after : goal.returns-clause-rows_after
returns-clause-rows_after c =
    let says = c.trace.ensures in
    says.rows
