use Rattle.std.proofs.Common.{Some}
use Rattle.task_tables.proofs.tests.one_cell.Given as goal

-- the application that the call is handed
abbrev pub ghosts-one_cell_named : goal.ghosts-one_cell_named
ghosts-one_cell_named g a = record { app = Some a.app.now }
