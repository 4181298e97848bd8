use Rattle.task_tables.specs.Tasks.{with_value}
use Rattle.task_tables.proofs.TaskLemmas.{comes_out}
use Rattle.task_tables.proofs.task_table.TaskTable.fill_value.Goals as goal

pub returns-in-Last-clause-known : goal.returns-in-Last-clause-known
returns-in-Last-clause-known g c = rw (← c.self.view_is) (λ before is.
    let filling = rw c.in-Last.is at (c.fill_value_at.ensures.known before is) in
    comes_out c.self.inside.tasks.entries c.fill_value_at.new.tasks.entries c.take_out.new.tasks.entries c.args.number _ (with_value before c.args.index c.args.value) c.take_out.result filling
    c.take_out.ensures.ready c.take_out.ensures.rest)
