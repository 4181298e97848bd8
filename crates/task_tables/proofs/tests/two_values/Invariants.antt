use Rattle.std.proofs.Common.{Some}
use Rattle.task_tables.proofs.tests.two_values.Given as goal

-- the application that the call is handed
abbrev pub ghosts-two_values_named : goal.ghosts-two_values_named
ghosts-two_values_named g a = record { app = Some a.app.now }
