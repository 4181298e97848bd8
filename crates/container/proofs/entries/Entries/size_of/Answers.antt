use Rattle.std.proofs.Common.{sym}
use Rattle.container.proofs.MapLemmas.{view_count}
use Rattle.container.proofs.entries.Entries.size_of.Goals as goal

pub returns : goal.returns
returns g c = rw (← c.self.view_is) (sym (view_count c.self.inside.versions.items c.args.version c.count_cells.result (rw c.deref.ensures.value at c.count_cells.ensures)))
