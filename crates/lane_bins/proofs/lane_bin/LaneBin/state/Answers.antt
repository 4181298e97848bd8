use Rattle.lane_bins.proofs.lane_bin.LaneBin.state.Goals as goal

pub returns-clause-read : goal.returns-clause-read
returns-clause-read g c = rw (← c.self.view_is) c.self.invariant.read
