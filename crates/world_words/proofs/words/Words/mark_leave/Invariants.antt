use Rattle.std.specs.Prelude.{None}
use Rattle.world_rule.specs.Views.{no_task, no_outline}
use Rattle.event_lists.specs.declared.event.Event.TheVariants.{Leave}
use Rattle.world_words.proofs.words.Words.mark_leave.Given as goal

abbrev pub ghosts-load_event : goal.ghosts-load_event
ghosts-load_event g a = record { ranks = a.self.now.ranks; workers = a.self.now.workers; program = a.self.now.program; may = g.A.Facts.may_do a.self.now.app; lane = a._name; event = Leave a._small; effect = None; task = no_task; outline = no_outline }
