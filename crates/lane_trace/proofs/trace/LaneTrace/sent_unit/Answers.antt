use Rattle.std.proofs.Common.{rules, arith, ap, ◌∙◌, ◌∷◌}
use Rattle.event_lists.specs.declared.event.Event.TheVariants as full
use Rattle.event_lists.specs.declared.event.Parcel.TheVariants as parcel
use Rattle.lane_trace.proofs.StoredEventLemmas.{unit_added}
use Rattle.lane_trace.proofs.trace.LaneTrace.sent_unit.Goals as goal

pub invariant_of-self : goal.invariant_of-self
invariant_of-self c =
    let after = unit_added c.self.inside.units.items c.self.inside.needs.items c.self.inside.rows.items c.self.inside.entries.items c.args.number c.args.to (record { unit = c.args.unit; due = c.args.due }) c.self.invariant.stored c.push_reserved-2.new.self.items c.push_reserved.new.self.items c.len.result c.push_reserved-2.ensures.items c.push_reserved.ensures.items (search rules) in
    record { stored = after.stored; entries = omega arith; units = omega arith; needs = omega arith; rows = omega arith }

pub returns-clause-events : goal.returns-clause-events
returns-clause-events c =
    let after = unit_added c.self.inside.units.items c.self.inside.needs.items c.self.inside.rows.items c.self.inside.entries.items c.args.number c.args.to (record { unit = c.args.unit; due = c.args.due }) c.self.invariant.stored c.push_reserved-2.new.self.items c.push_reserved.new.self.items c.len.result c.push_reserved-2.ensures.items c.push_reserved.ensures.items (search rules) in
    after.events ∙ ap (λ v. full.Sent c.args.number c.args.to (parcel.Unit c.args.unit c.args.due) ∷ v.events) c.self.view_is
