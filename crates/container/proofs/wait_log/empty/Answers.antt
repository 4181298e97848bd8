use Rattle.std.proofs.Common.{◌≡◌, ◌<◌, ◌∷◌, ◌∙◌, None, ap, sym, length, get_or, take, arith}
use Rattle.std.specs.Prelude.{slice_set}
use Rattle.std.proofs.lemmas.List.{take_more}
use Rattle.container.specs.WaitLog.{emptied}
use Rattle.container.proofs.WaitLemmas.{emptied-push}
use Rattle.container.proofs.wait_log.empty.Goals as goal

pub loop-place-preserved : goal.loop-place-preserved
loop-place-preserved c =
    let log = c.args.log.now.items in
    let later = c.args.later.now in
    let i = c.loop-place.place-index in
    let below : i < length later = omega arith in
    c.empty_at-in-loop-place.ensures ∙ ap (λ s. slice_set s (get_or later i 0) None) c.loop-place.invariant
    ∙ sym (emptied-push log (c.args.first ∷ take i later) (get_or later i 0)) ∙ ap (λ ps. emptied log (c.args.first ∷ ps)) (sym (take_more later i 0 below))
