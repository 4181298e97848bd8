use Rattle.lane_trace.proofs.RoomLemmas.{any_fits}
use Rattle.lane_trace.proofs.room.any_event_fits.Goals as goal

pub returns : goal.returns
returns c = any_fits
