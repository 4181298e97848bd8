use Rattle.std.specs.Prelude.{Some}
use Rattle.lane_tasks.proofs.tests.hand_over.Given as goal

-- the application and the words that the call is handed
abbrev pub ghosts-hand_over_named-J-WordsNaming : goal.ghosts-hand_over_named-J-WordsNaming
ghosts-hand_over_named-J-WordsNaming g a = record { words = Some a.words.now }

abbrev pub ghosts-hand_over_named-J-Naming : goal.ghosts-hand_over_named-J-Naming
ghosts-hand_over_named-J-Naming g a = record { app = Some a.app.now }
