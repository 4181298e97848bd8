use Rattle.std.specs.Prelude.{None}
use Rattle.world_rule.specs.Owing.{no_event}
use Rattle.world_rule.specs.Views.{no_task, no_outline}
use Rattle.world_words.proofs.words.Words.look_submitted.Given as goal

abbrev pub ghosts-look_submitted_as : goal.ghosts-look_submitted_as
ghosts-look_submitted_as g a = record { ranks = a.self.now.ranks; workers = a.self.now.workers; program = a.self.now.program; may = g.A.Facts.may_do a.self.now.app; lane = a._name; event = no_event; effect = None; task = no_task; outline = no_outline }
