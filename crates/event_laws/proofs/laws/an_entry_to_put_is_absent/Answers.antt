use Rattle.event_laws.specs.Follows.{bin_of}
use Rattle.event_laws.proofs.EntryLemmas.{put_finds_none}
use Rattle.event_laws.proofs.laws.an_entry_to_put_is_absent.Goals as goal

pub returns : goal.returns
returns g = λ program task_effects log follows apart r n i os c plan at left. put_finds_none program task_effects log follows apart r n i os c (bin_of r c) plan at left
