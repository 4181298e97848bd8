use Rattle.std.proofs.Common.{◌≡◌, Some, rules}
use Rattle.std.specs.Prelude.{slice_get}
use Rattle.std.proofs.lemmas.Option.{slice_get_within}
use Rattle.task_tables.proofs.PlaceLemmas.{many_places}
use Rattle.task_tables.proofs.TaskLemmas.{cell_learned}
use Rattle.task_tables.proofs.task.Task.fill_cell.Goals as goal

pub fill-requires : goal.fill-requires
fill-requires g c =
    let named : g.J.Naming.app ≡ Some c.args.app.now = c.requires.named in
    let is = rw named at c.self.invariant.1 in
    let reads = g.A.App.reads_of c.args.app.now c.self.inside.parts.value.unit in
    let at : slice_get (g.A.App.reads_of c.args.app.now c.self.inside.parts.value.unit) c.args.index ≡ Some c.args.entry = search rules in
    rw (c.deref_mut.ensures.value, many_places (g.A.App.right_cell c.args.app.now) reads c.self.inside.parts.value.cells is.cells) (slice_get_within reads c.args.index c.args.entry at)

pub invariant_of-self : goal.invariant_of-self
invariant_of-self g c =
    let named : g.J.Naming.app ≡ Some c.args.app.now = c.requires.named in
    let is = rw named at c.self.invariant.1 in
    let at : slice_get (g.A.App.reads_of c.args.app.now c.self.inside.parts.value.unit) c.args.index ≡ Some c.args.entry = search rules in
    let filled = rw c.deref_mut.ensures.value at c.fill.ensures.filled in
    let same = rw c.deref_mut.ensures.value at c.fill.ensures.same in
    rw (c.deref_mut.ensures.value, named) (
      c.self.invariant.0,
      cell_learned (g.A.App.is_unit c.args.app.now) (g.A.App.due_of c.args.app.now) (g.A.App.needs_of c.args.app.now) (g.A.App.reads_of c.args.app.now) (g.A.App.right_value c.args.app.now) (g.A.App.right_cell c.args.app.now) _ c.fill.new.places c.fill.result c.args.index c.args.entry c.args.cell is at c.requires.right filled same,
    )
