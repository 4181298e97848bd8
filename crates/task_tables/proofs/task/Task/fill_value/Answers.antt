use Rattle.std.proofs.Common.{◌≡◌, ◌∙◌, Some, rules}
use Rattle.std.specs.Prelude.{slice_get}
use Rattle.task_tables.proofs.NamingLemmas.{some_both}
use Rattle.task_tables.proofs.PlaceLemmas.{as_many_places}
use Rattle.task_tables.proofs.TaskLemmas.{value_learned}
use Rattle.task_tables.proofs.task.Task.fill_value.Goals as goal

pub invariant_of-self : goal.invariant_of-self
invariant_of-self g c =
    let at : slice_get c.self.inside.parts.value.needs.items c.args.index ≡ Some c.args.future = search rules in
    let filled = rw c.deref_mut.ensures.value at c.fill.ensures.filled in
    let same = rw c.deref_mut.ensures.value at c.fill.ensures.same in
    rw c.deref_mut.ensures.value (
      as_many_places c.self.inside.parts.value.values c.fill.new.places c.fill.result c.args.index (Some c.args.value) filled same ∙ c.self.invariant.0,
      some_both g.J.Naming.app c.requires c.self.invariant.1 (λ app right is.
          value_learned (g.A.App.is_unit app) (g.A.App.due_of app) (g.A.App.needs_of app) (g.A.App.reads_of app) (g.A.App.right_value app) (g.A.App.right_cell app) _ c.fill.new.places c.fill.result c.args.index c.args.future c.args.value is at right filled same),
    )
