use Rattle.task_tables.proofs.task_table.TaskTable.enter.Goals as goal

pub returns-in-Ok-clause-waits : goal.returns-in-Ok-clause-waits
returns-in-Ok-clause-waits g c =
    let updates = rw c.number.ensures at c.in-Ok.ensures.updates.0 in
    (c.is_ready.ensures.waits c.if-is_ready.false, rw (← c.self.view_is) updates)
