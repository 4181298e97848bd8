use Rattle.std.specs.Prelude.{Some, None}
use Rattle.world_carriers.proofs.tests.deliver_here.Given as goal

abbrev pub ghosts-deliver-J-WordsNaming : goal.ghosts-deliver-J-WordsNaming
ghosts-deliver-J-WordsNaming g a = record { words = Some a.words.now }
