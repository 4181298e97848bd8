-- The laws of the application of a job on lists of events.
use Rattle.std.proofs.Common.{◌≡◌, ℕ, [], Some, arith}
use Rattle.std.specs.Prelude.{Contains, slice_get}
pub use Rattle.haar_lists.proofs.ListLawLemmas.{spawns_apart, one_bringer, puts_apart, erases_apart, erases_put, bins_hold, sizes_right, other_sizes, totals_told, starts_stay, spawns_stay, writes_stay}
pub use Rattle.haar_lists.proofs.ReadLemmas.{reads_held, counts_come_after}

-- nothing is dropped yet
pub nothing_dropped : {A : Type 0} (version : ℕ) → Contains [] version → A
nothing_dropped version (k, lt, e) = absurd (omega (arith, lt))

pub nothing_at : {A : Type 0} (index version : ℕ) → slice_get [] index ≡ Some version → A
nothing_at index version e = absurd (cc)
