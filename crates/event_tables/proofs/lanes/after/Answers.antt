use Rattle.event_tables.proofs.LaneLemmas.{lane_shows}
use Rattle.event_tables.proofs.lanes.after.Goals as goal

pub returns : goal.returns
returns c = λ ranks workers log lane h below taken shown.
    lane_shows ranks workers log lane c.args.event.now c.args.due c.args.state.now _ h below taken shown c.hand_after.ensures c.own_after.ensures c.keeps_after.ensures c.fresh_after.ensures c.fence_after.ensures c.entered_after.ensures c.passes_after.ensures c.recent_after.ensures
