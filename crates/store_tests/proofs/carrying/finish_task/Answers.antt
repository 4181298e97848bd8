use Rattle.std.proofs.Common.{length, refl}
use Rattle.world_rule.specs.Views.{progress}
use Rattle.store_tests.proofs.CarryingLemmas.{respared, may_end}
use Rattle.store_tests.proofs.carrying.finish_task.Goals as goal

pub ran-requires-clause-done : goal.ran-requires-clause-done
ran-requires-clause-done g c =
    let os = c.requires.hand.0 in
    let h = respared c.args.words.now os (length os) _ c.args.hand.now c.reserve.new.lane c.in_ok-reserve.ensures.room c.requires.hand.1 in
    (progress 0 h.number os (length os), h.far, refl, h.knows)

pub ran-requires-clause-dues : goal.ran-requires-clause-dues
ran-requires-clause-dues g c =
    let os = c.requires.hand.0 in
    may_end c.args.words.now os (length os) c.reserve.new.lane (respared c.args.words.now os (length os) _ c.args.hand.now c.reserve.new.lane c.in_ok-reserve.ensures.room c.requires.hand.1)
