use Rattle.std.proofs.Common.{◌≡◌, drop, map}
use Rattle.job_data.specs.Data.{data_of}
use Rattle.job_data.specs.Writers.{form_at}
use Rattle.job_data.proofs.writers.form_at.Given as goal

abbrev pub invariant-loop-place : goal.invariant-loop-place
invariant-loop-place l = form_at (map data_of l.commands) (drop l.place-index l.places) l.name ≡ form_at (map data_of l.commands) l.places l.name
