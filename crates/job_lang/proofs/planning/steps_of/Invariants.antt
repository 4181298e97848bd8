use Rattle.std.proofs.Common.{◌≡◌, [], map, take}
use Rattle.job_data.specs.Data.{data_of}
use Rattle.job_data.specs.Recalls.{Recalls}
use Rattle.job_data.specs.Versions.{plan_from}
use Rattle.job_lang.proofs.planning.steps_of.Given as goal

abbrev pub invariant-loop-at : goal.invariant-loop-at
invariant-loop-at l = record {
  steps : l.steps.items ≡ plan_from [] (map data_of (take l.at l.commands));
  recalls : Recalls (map data_of (take l.at l.commands)) l.history;
}
