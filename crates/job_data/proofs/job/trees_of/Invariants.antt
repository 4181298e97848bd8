use Rattle.std.proofs.Common.{map, take}
use Rattle.job_data.specs.Data.{data_of}
use Rattle.job_data.specs.Recalls.{Recalls}
use Rattle.job_data.proofs.job.trees_of.Given as goal

abbrev pub invariant-loop-at : goal.invariant-loop-at
invariant-loop-at l = Recalls (map data_of (take l.at l.commands)) l.history
