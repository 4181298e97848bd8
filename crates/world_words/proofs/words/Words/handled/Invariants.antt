use Rattle.std.specs.Prelude.{None}
use Rattle.world_rule.specs.Views.{no_task, no_outline}
use Rattle.event_lists.specs.Events.{in_hand}
use Rattle.world_rule.specs.Owing.{ended}
use Rattle.world_rule.specs.Views.{own_events}
use Rattle.world_words.proofs.words.Words.handled.Given as goal

abbrev pub ghosts-add_event : goal.ghosts-add_event
ghosts-add_event g a = record { ranks = a.self.now.ranks; workers = a.self.now.workers; program = a.self.now.program; may = g.A.Facts.may_do a.self.now.app; lane = a._name; event = ended 0 (in_hand (own_events a.seat.now.me.0.parts)); effect = None; task = no_task; outline = no_outline }
