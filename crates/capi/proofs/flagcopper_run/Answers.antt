-- `capi::flagcopper_run` meets its contract: the answer of `interpreter::run`, told in numbers. Assumes nothing.
use Rattle.capi.proofs.flagcopper_run.Goals as goal

pub returns-clause-value : goal.returns-clause-value
returns-clause-value c =
    let says = c.run.ensures in
    rw says.answer at c.from.ensures

pub returns-clause-workspace_after : goal.returns-clause-workspace_after
returns-clause-workspace_after c =
    let says = c.run.ensures in
    says.words
