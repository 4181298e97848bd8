use Rattle.std.proofs.Common.{sym, ap, subst, ◌∙◌}
use Rattle.event_lists.specs.Fences.{passes, MayOpen}
use Rattle.fence_tree.specs.Turns.{passes_read}
use Rattle.fence_tree.proofs.TurnLemmas.{knows_after}
use Rattle.fence_tree.proofs.laws.other_work_keeps_the_turn.Goals as goal

pub returns : goal.returns
returns g c = λ s old new turning inside same no_receipt more. record {
  knows = knows_after c.args._words.now (g.A.Facts.may_do c.args._words.now.app) old new s (passes_read s.stage s.answered) (passes_read s.stage s.answered) turning.knows
      (record { lane = inside; passes = ap passes same ∙ turning.knows.read.passes; ended = subst MayOpen (sym same) turning.knows.read.ended }) more no_receipt;
  gathered = turning.gathered;
}
