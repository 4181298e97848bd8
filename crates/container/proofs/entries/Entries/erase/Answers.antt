use Rattle.container.proofs.MapLemmas.{view_get, view_remove}
use Rattle.container.proofs.entries.Entries.erase.Goals as goal

pub returns-clause-cell : goal.returns-clause-cell
returns-clause-cell g c = rw (← c.self.view_is, view_get) c.take_cell.ensures.old

pub returns-clause-rest : goal.returns-clause-rest
returns-clause-rest g c = rw (← c.self.view_is) (view_remove c.self.inside.versions.items _ c.args.name c.take_cell.ensures.rest)
