use Rattle.std.proofs.Common.{rules, arith, ap, ◌∙◌, ◌∷◌}
use Rattle.event_lists.specs.declared.event.Event.TheVariants as full
use Rattle.lane_trace.proofs.StoredEventLemmas.{task_added}
use Rattle.lane_trace.proofs.trace.LaneTrace.submitted.Goals as goal

pub invariant_of-self : goal.invariant_of-self
invariant_of-self c =
    let after = task_added c.self.inside.units.items c.self.inside.needs.items c.self.inside.rows.items c.self.inside.entries.items c.args.number (record { unit = c.args.unit; due = c.args.due }) c.args.needs.now c.self.invariant.stored c.requires.few c.requires.distinct c.push_reserved-2.new.self.items c.add_needs.new.all.items c.push_reserved.new.self.items c.len.result c.len-2.result c.push_reserved-2.ensures.items c.add_needs.ensures.items c.push_reserved.ensures.items (search rules) (search rules) in
    record { stored = after.stored; entries = omega arith; units = omega arith; needs = omega arith; rows = omega arith }

pub returns-clause-events : goal.returns-clause-events
returns-clause-events c =
    let after = task_added c.self.inside.units.items c.self.inside.needs.items c.self.inside.rows.items c.self.inside.entries.items c.args.number (record { unit = c.args.unit; due = c.args.due }) c.args.needs.now c.self.invariant.stored c.requires.few c.requires.distinct c.push_reserved-2.new.self.items c.add_needs.new.all.items c.push_reserved.new.self.items c.len.result c.len-2.result c.push_reserved-2.ensures.items c.add_needs.ensures.items c.push_reserved.ensures.items (search rules) (search rules) in
    after.events ∙ ap (λ v. full.Submitted c.args.number (record { unit = c.args.unit; needs = c.args.needs.now; due = c.args.due }) ∷ v.events) c.self.view_is
