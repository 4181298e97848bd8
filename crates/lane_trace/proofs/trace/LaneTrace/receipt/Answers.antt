use Rattle.std.proofs.Common.{rules, arith, ap, ◌∙◌, ◌∷◌, length}
use Rattle.event_lists.specs.declared.event.Event.TheVariants as full
use Rattle.lane_trace.proofs.StoredEventLemmas.{receipt_added}
use Rattle.lane_trace.proofs.trace.LaneTrace.receipt.Goals as goal

pub invariant_of-self : goal.invariant_of-self
invariant_of-self c =
    let after = receipt_added c.self.inside.units.items c.self.inside.needs.items c.self.inside.rows.items c.self.inside.entries.items c.args.receipt.now c.self.invariant.stored (search rules) c.add_rows.new.all.items c.push_reserved.new.self.items c.len.result c.len-count.result (cc) (cc) (search rules) (search rules) in
    record { stored = after.stored; entries = omega arith; units = omega arith; needs = omega arith; rows = omega (arith, ap length c.rows.ensures) }

pub returns-clause-events : goal.returns-clause-events
returns-clause-events c =
    let after = receipt_added c.self.inside.units.items c.self.inside.needs.items c.self.inside.rows.items c.self.inside.entries.items c.args.receipt.now c.self.invariant.stored (search rules) c.add_rows.new.all.items c.push_reserved.new.self.items c.len.result c.len-count.result (cc) (cc) (search rules) (search rules) in
    after.events ∙ ap (λ v. full.Receipt c.args.receipt.now ∷ v.events) c.self.view_is
