use Rattle.std.proofs.Common.{◌≡◌, ◌+◌, ◌-◌, sym, ap, ◌∙◌, arith}
use Rattle.std.specs.Prelude.{min, ◌^◌}
use Rattle.event_lists.specs.Futures.{spawned_due, spawned_needs}
use Rattle.event_tables.specs.Lacking.{meets, lacked}
use Rattle.event_tables.proofs.LackingLemmas.{bit, bit_cast, none_noted, one_noted}
use Rattle.event_tables.proofs.lacking.note.Goals as goal

pub returns-in_default : goal.returns-in_default
returns-in_default c = λ ranks workers log legal short shows futures.
    none_noted log c.args.lane c.args.state.now c.args.event.now shows (sym c.spawner.ensures ∙ c.in_default.is) c.args.lacking.now

pub returns : goal.returns
returns c = λ ranks workers log legal short shows futures.
    let due = c.spawned_due-due.ensures in
    let more : c.lacked_of-more.result ≡ lacked c.args.futures.now c.in-Some.by (spawned_due c.args.event.now) (spawned_needs c.args.event.now) =
    c.lacked_of-more.ensures.count ∙ (λ i. lacked c.args.futures.now c.in-Some.by (due i) (c.spawned_needs.ensures i)) in
    let met : c.from-met.result ≡ bit (meets c.args.futures.now c.in-Some.by (spawned_due c.args.event.now)) =
    c.from-met.ensures ∙ bit_cast c.meets_need.result ∙ ap bit (c.meets_need.ensures ∙ ap (meets c.args.futures.now c.in-Some.by) due) in
    one_noted ranks workers log c.args.lane c.args.state.now c.args.event.now legal.1 short shows c.args.futures.now futures c.in-Some.by (sym c.spawner.ensures ∙ c.in-Some.is)
    (omega (arith, more, c.lacked_of-more.ensures.within)) c.args.lacking.now c.set.new.self c.saturating_add.result
    (c.saturating_add.ensures ∙ (λ i. min ((c.saturating_sub.ensures ∙ (λ j. c.get-count.ensures j - met j)) i + more i) (2 ^ 64 - 1)))
    c.set.ensures.values
