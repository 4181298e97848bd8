use Rattle.std.proofs.Common.{Some}
use Rattle.container.proofs.tests.put_and_look_named.Given as goal

abbrev pub ghosts-put_and_look : goal.ghosts-put_and_look
ghosts-put_and_look g a = record { app = Some a.app.now }
