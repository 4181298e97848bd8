use Rattle.std.proofs.Common.{◌≡◌, Some}
use Rattle.task_tables.proofs.PlaceLemmas.{empty_places, many_places}
use Rattle.task_tables.proofs.TaskLemmas.{fresh_parts}
use Rattle.task_tables.proofs.task.Task.new.Goals as goal

pub invariant_of-result : goal.invariant_of-result
invariant_of-result g c =
    let named : g.J.Naming.app ≡ Some c.args.app.now = c.requires.named in
    let right = g.A.App.right_value c.args.app.now in
    rw (c.in-Ok.ensures.ok, named) (
      rw (c.in_ok-parts.ensures.places.0, c.in_ok-parts.ensures.parts.3) (many_places right c.args.needs.now _ (empty_places right c.args.needs.now)),
      fresh_parts (g.A.App.is_unit c.args.app.now) (g.A.App.due_of c.args.app.now) (g.A.App.needs_of c.args.app.now) (g.A.App.reads_of c.args.app.now) (g.A.App.right_value c.args.app.now) (g.A.App.right_cell c.args.app.now) c.args.unit _ c.args.number _ c.args.due _ c.args.needs.now _ c.count_reads-reads.result _ _
          c.requires.unit c.requires.due c.requires.needs c.count_reads-reads.ensures.count c.in_ok-parts.ensures.parts c.in_ok-parts.ensures.places,
    )
