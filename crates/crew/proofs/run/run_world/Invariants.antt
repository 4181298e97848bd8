use Rattle.std.proofs.Common.{Some}
use Rattle.crew.proofs.run.run_world.Given as goal

-- the application that the call is handed
abbrev pub ghosts-run_named : goal.ghosts-run_named
ghosts-run_named g a = record { app = Some a.app.now }
