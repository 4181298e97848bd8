use Rattle.std.proofs.Common.{Some}
use Rattle.mailbox.proofs.tests.carry.Given as goal

-- the application that the call is handed
abbrev pub ghosts-carry_named : goal.ghosts-carry_named
ghosts-carry_named g a = record { app = Some a.app.now }
