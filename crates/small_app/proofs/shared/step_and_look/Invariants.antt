use Rattle.std.proofs.Common.{Some}
use Rattle.small_app.proofs.shared.step_and_look.Given as goal

-- the application that the call is handed
abbrev pub ghosts-give_and_look : goal.ghosts-give_and_look
ghosts-give_and_look g a = record { app = Some a.app.now }
