use Rattle.world_rule.proofs.LookLemmas.{looks}
use Rattle.world_words.proofs.words.Words.look.Goals as goal

pub look_as-requires-clause-step : goal.look_as-requires-clause-step
look_as-requires-clause-step g c = looks c.args.self.now.ranks c.args.self.now.workers c.args.self.now.program (g.A.Facts.may_do c.args.self.now.app) _ _ c.args.seat.now.me _
