use Rattle.event_laws.proofs.MainSpawnLemmas.{dues_are_starts, needs_are_starts}
use Rattle.event_laws.proofs.growth.mains_spawn_their_starts.Goals as goal

pub returns-clause-dues : goal.returns-clause-dues
returns-clause-dues g = dues_are_starts

pub returns-clause-needs : goal.returns-clause-needs
returns-clause-needs g = needs_are_starts
