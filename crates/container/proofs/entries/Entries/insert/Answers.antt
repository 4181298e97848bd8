use Rattle.container.proofs.MapLemmas.{view_get, view_insert, view_same}
use Rattle.container.proofs.ChangeLemmas.{on_ok, on_err}
use Rattle.container.proofs.entries.Entries.insert.Goals as goal

pub returns-clause-ok : goal.returns-clause-ok
returns-clause-ok g c = rw (← c.self.view_is) (on_ok c.add_cell.result (λ u. view_insert c.self.inside.versions.items _ c.args.name c.args.cell u) c.add_cell.ensures.ok)

pub returns-clause-present : goal.returns-clause-present
returns-clause-present g c = rw (← c.self.view_is, view_get) c.add_cell.ensures.present

pub returns-clause-same : goal.returns-clause-same
returns-clause-same g c = rw (← c.self.view_is) (on_err c.add_cell.result (λ u. view_same c.self.inside.versions.items _ u) c.add_cell.ensures.same)
