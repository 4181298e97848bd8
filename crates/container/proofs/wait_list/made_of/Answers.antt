use Rattle.std.proofs.Common.{◌≡◌, ◌<◌, ◌++◌, ◌∷◌, [], None, ◌∙◌, ap, sym, length, get_or, take, arith}
use Rattle.std.proofs.lemmas.List.{take_more}
use Rattle.container.specs.WaitLog.{left_in}
use Rattle.container.proofs.WaitLemmas.{left_in-more}
use Rattle.container.proofs.wait_list.made_of.Goals as goal

pub loop-slot-preserved : goal.loop-slot-preserved
loop-slot-preserved c =
    let log = c.args.log.now in
    let i = c.loop-slot.slot-index in
    let below : i < length log = omega arith in
    c.in_ok-add_slot.ensures ∙ ap (λ ls. ls ++ left_in (get_or log i None ∷ [])) c.loop-slot.invariant
    ∙ sym (left_in-more (take i log) (get_or log i None)) ∙ ap left_in (sym (take_more log i None below))
