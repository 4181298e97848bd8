use Rattle.std.proofs.Common.{sym, ◌∙◌, ap}
use Rattle.container.proofs.VersionLemmas.{find_without}
use Rattle.container.specs.VersionEntries.{find_in}
use Rattle.container.proofs.MapLemmas.{view_count, view_without}
use Rattle.container.proofs.entries.Entries.drop_version.Goals as goal

pub returns-clause-count : goal.returns-clause-count
returns-clause-count g c = rw (← c.self.view_is) (sym (view_count c.self.inside.versions.items c.args.version c.count_cells-count.result (rw c.deref.ensures.value at c.count_cells-count.ensures)))

pub returns-clause-rest : goal.returns-clause-rest
returns-clause-rest g c = rw (← c.self.view_is)
    (view_without c.self.inside.versions.items _ c.args.version (λ q. ap (λ es. find_in es q) c.drop_cells.ensures ∙ find_without c.self.inside.versions.items c.args.version q))
