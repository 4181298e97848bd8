use Rattle.std.proofs.Common.{◌≡◌, take, Some}
use Rattle.std.specs.List.{fold}
use Rattle.haar_visits.specs.Sizing.{add_count}
use Rattle.haar_visits.proofs.sizing.total.Given as goal

abbrev pub invariant-loop-value : goal.invariant-loop-value
invariant-loop-value l = l.sum ≡ fold add_count (Some 0) (take l.value-index l.values)
