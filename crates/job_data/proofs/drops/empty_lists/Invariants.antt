use Rattle.std.proofs.Common.{◌≡◌, [], replicate}
use Rattle.job_data.specs.Uses.{items_in}
use Rattle.job_data.proofs.drops.empty_lists.Given as goal

abbrev pub invariant-loop : goal.invariant-loop
invariant-loop l = items_in l.lists.items ≡ replicate l.counter []
