use Rattle.std.proofs.Common.{◌≡◌, drop, map}
use Rattle.job_data.specs.Data.{data_of}
use Rattle.job_data.specs.Writers.{version_at}
use Rattle.job_data.proofs.writers.version_at.Given as goal

abbrev pub invariant-loop-place : goal.invariant-loop-place
invariant-loop-place l = version_at (map data_of l.commands) (drop l.place-index l.places) l.name ≡ version_at (map data_of l.commands) l.places l.name
