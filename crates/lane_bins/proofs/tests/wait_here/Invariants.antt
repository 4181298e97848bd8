use Rattle.std.proofs.Common.{Some}
use Rattle.lane_bins.proofs.tests.wait_here.Given as goal

abbrev pub ghosts-wait_in_bins-J-Naming : goal.ghosts-wait_in_bins-J-Naming
ghosts-wait_in_bins-J-Naming g a = record { app = Some a.words.now.app }

abbrev pub ghosts-wait_in_bins-J-WordsNaming : goal.ghosts-wait_in_bins-J-WordsNaming
ghosts-wait_in_bins-J-WordsNaming g a = record { words = Some a.words.now }
