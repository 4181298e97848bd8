use Rattle.task_tables.specs.Tasks.{with_cell}
use Rattle.task_tables.proofs.TaskLemmas.{comes_out, waits_on}
use Rattle.task_tables.proofs.task_table.TaskTable.fill_cell.Goals as goal

pub returns-in-Last-clause-known : goal.returns-in-Last-clause-known
returns-in-Last-clause-known g c = rw (← c.self.view_is) (λ before is.
    let filling = rw c.in-Last.is at (c.fill_cell_at.ensures.known before is) in
    comes_out c.self.inside.tasks.entries c.fill_cell_at.new.tasks.entries c.take_out.new.tasks.entries c.args.number _ (with_cell before c.args.index c.args.cell) c.take_out.result filling
    c.take_out.ensures.ready c.take_out.ensures.rest)

pub returns-in-Waits-clause-known : goal.returns-in-Waits-clause-known
returns-in-Waits-clause-known g c = rw (← c.self.view_is) (λ before is.
    waits_on c.self.inside.tasks.entries c.fill_cell_at.new.tasks.entries c.args.number _ (with_cell before c.args.index c.args.cell) (rw c.in-Waits.is at (c.fill_cell_at.ensures.known before is)))
