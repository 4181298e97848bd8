use Rattle.event_laws.proofs.EntryLemmas.{erase_finds_it}
use Rattle.event_laws.proofs.laws.an_entry_to_erase_is_present.Goals as goal

pub returns : goal.returns
returns g = λ program task_effects log follows apart put r n i os c plan at left. erase_finds_it program task_effects log follows apart put r n i os c plan at left
