use Rattle.std.proofs.Common.{◌≡◌, ℕ, ◌<◌}
use Rattle.std.specs.Prelude.{slice_index_or}
use Rattle.container.specs.declared.version_entries.VersionEntries.{VersionEntries}
use Rattle.container.proofs.version_entries.index_of.Given as goal

abbrev pub invariant-loop-i : goal.invariant-loop-i
invariant-loop-i g l = (k : ℕ) (d : VersionEntries g.row.C.Denot) → k < l.i → (slice_index_or l.versions k d).version ≡ l.version → ⊥
