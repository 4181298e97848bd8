use Rattle.task_tables.proofs.NamingLemmas.{some_then}
use Rattle.task_tables.proofs.TaskLemmas.{opened}
use Rattle.task_tables.proofs.task.Task.open.Goals as goal

pub finish-requires : goal.finish-requires
finish-requires g c =
    let ready = rw (← c.self.view_is) at c.requires.values in
    rw c.into_inner-unit.ensures ready

pub finish-requires-2 : goal.finish-requires-2
finish-requires-2 g c =
    let ready = rw (← c.self.view_is) at c.requires.cells in
    rw c.into_inner-unit.ensures ready

pub returns-clause-right : goal.returns-clause-right
returns-clause-right g c =
    let values = rw c.into_inner-unit.ensures at c.finish.ensures in
    let cells = rw c.into_inner-unit.ensures at c.finish-2.ensures in
    rw c.into_inner-unit.ensures (some_then g.J.Naming.app c.self.invariant.1 (λ app is.
    opened (g.A.App.is_unit app) (g.A.App.due_of app) (g.A.App.needs_of app) (g.A.App.reads_of app) (g.A.App.right_value app) (g.A.App.right_cell app) _ c.finish.result.items c.finish-2.result.items is values cells))
