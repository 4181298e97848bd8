use Rattle.std.proofs.Common.{◌∙◌, ap}
use Rattle.container.specs.VersionEntries.{find_in}
use Rattle.container.proofs.MapLemmas.{view_get}
use Rattle.container.proofs.entries.Entries.find.Goals as goal

pub returns : goal.returns
returns g c = rw (← c.self.view_is, view_get) (c.find_cell.ensures ∙ ap (λ es. find_in es c.args.name) c.deref.ensures.value)
