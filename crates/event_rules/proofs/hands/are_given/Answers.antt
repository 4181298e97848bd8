use Rattle.std.proofs.Common.{◌≤◌, List, Some, sym, subst}
use Rattle.std.specs.Prelude.{Option}
use Rattle.app_core.specs.declared.label.Label.{Label}
use Rattle.event_lists.specs.declared.future.Bringer.{Bringer}
use Rattle.event_lists.specs.Futures.{times_given}
use Rattle.event_rules.specs.States.{AreGiven}
use Rattle.event_rules.proofs.LoopLemmas.{given_each, passes, not_both}
use Rattle.event_rules.proofs.hands.are_given.Goals as goal

pub returns-then-not-future : goal.returns-then-not-future
returns-then-not-future g c =
    let log = g.P.Past.log_of c.args.past.now in
    let by = c.in-Some.by in
    let some = c.in-Some.is in
    let items = c.labels-label-items.ensures in (
      (λ t. absurd (cc)),
      (λ all.
          let whole : AreGiven (Some by) log c.labels-label-items.result.now = subst (λ (o : Option Bringer). AreGiven o log c.labels-label-items.result.now) some (subst (λ (ds : List Label). AreGiven c.args.by log ds) (sym items) all) in
          let here = passes (AreGiven (Some by) log) (λ d. 1 ≤ times_given (record { by = by; label = d }) log) (given_each by log) c.labels-label-items.result.now c.loop-label.label-index (record { command = 0; part = 0; place = 0 }) c.loop-label-test.true c.loop-label.invariant whole in
          absurd (not_both c.future.result.given (c.future.ensures.given.1 here) c.if-not-future.true)),
    )
