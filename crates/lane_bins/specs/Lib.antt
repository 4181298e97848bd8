pub mod LaneBins
