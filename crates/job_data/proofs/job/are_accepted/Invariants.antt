use Rattle.std.proofs.Common.{◌≡◌, [], map, take, true}
use Rattle.job_data.specs.Checks.{are_accepted}
use Rattle.job_data.specs.Data.{data_of}
use Rattle.job_data.specs.Recalls.{Recalls}
use Rattle.job_data.proofs.job.are_accepted.Given as goal

abbrev pub invariant-loop-at : goal.invariant-loop-at
invariant-loop-at l = record {
  accepted : are_accepted l.depth [] (map data_of (take l.at l.commands)) ≡ true;
  recalls : Recalls (map data_of (take l.at l.commands)) l.history;
}
