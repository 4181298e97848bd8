use Rattle.std.proofs.Common.{◌≡◌, ◌<◌, ◌∷◌, ◌++◌, ◌∙◌, None, ap, sym, length, get_or, take, arith}
use Rattle.std.specs.List.{slice_index_or}
use Rattle.std.proofs.lemmas.List.{take_more}
use Rattle.container.specs.WaitLog.{callback_in, callbacks_at}
use Rattle.container.proofs.WaitLemmas.{callbacks_at-push}
use Rattle.container.proofs.wait_log.collect.Goals as goal

pub loop-place-preserved : goal.loop-place-preserved
loop-place-preserved c =
    let log = c.args.log.now in
    let later = c.args.later.now in
    let i = c.loop-place.place-index in
    let below : i < length later = omega arith in
    c.in_ok-add_callback-2.ensures ∙ ap (λ cs. cs ++ callback_in (slice_index_or log (get_or later i 0) None)) c.loop-place.invariant
    ∙ sym (callbacks_at-push log (c.args.first ∷ take i later) (get_or later i 0)) ∙ ap (λ ps. callbacks_at log (c.args.first ∷ ps)) (sym (take_more later i 0 below))
