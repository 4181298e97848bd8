use Rattle.std.proofs.Common.{ap}
use Rattle.lane_trace.specs.StoredEvents.{stored_event}
use Rattle.lane_trace.proofs.StoredEventLemmas.{event_found}
use Rattle.lane_trace.proofs.trace.LaneTrace.event_at.Goals as goal

pub returns : goal.returns
returns c =
    let f = stored_event (record { units = c.self.inside.units.items; needs = c.self.inside.needs.items; rows = c.self.inside.rows.items }) in
    let events = ap (λ v. v.events) c.self.view_is in
    let found = event_found f c.self.inside.entries.items c.args.index c.index.result.now (rw events c.requires) c.index.ensures in
    cc
