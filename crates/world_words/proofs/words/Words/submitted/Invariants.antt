use Rattle.world_rule.specs.Views.{no_task, no_outline}
use Rattle.event_lists.specs.declared.event.Event.TheVariants.{Submitted}
use Rattle.world_rule.specs.Steps.{effect_of}
use Rattle.world_words.specs.Lanes.{task_name}
use Rattle.world_words.proofs.words.Words.submitted.Given as goal

abbrev pub ghosts-add_event : goal.ghosts-add_event
ghosts-add_event g a = record { ranks = a.self.now.ranks; workers = a.self.now.workers; program = a.self.now.program; may = g.A.Facts.may_do a.self.now.app; lane = a._name; event = Submitted 0 (task_name a._small.0 a._large.now.now a._small.1); effect = effect_of a.seat.now.me.0.progress; task = no_task; outline = no_outline }
