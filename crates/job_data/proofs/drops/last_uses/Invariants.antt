use Rattle.std.proofs.Common.{◌≡◌, ℕ, ◌+◌, ◌≤◌, length, get_or, take}
use Rattle.job_data.specs.Uses.{last_use}
use Rattle.job_data.proofs.drops.last_uses.Given as goal

abbrev pub invariant-loop-step : goal.invariant-loop-step
invariant-loop-step l = record {
  long : length l.last.items ≡ length l.steps + 1;
  uses : (version : ℕ) → version ≤ length l.steps → get_or l.last.items version 0 ≡ last_use (take l.step-index l.steps) version;
}
