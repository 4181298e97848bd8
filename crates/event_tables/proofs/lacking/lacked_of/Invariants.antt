use Rattle.std.proofs.Common.{◌≡◌, ◌≤◌, take}
use Rattle.event_tables.specs.Lacking.{lacked}
use Rattle.event_tables.proofs.lacking.lacked_of.Given as goal

abbrev pub invariant-loop-label : goal.invariant-loop-label
invariant-loop-label l = (l.count ≡ lacked l.futures l.by l.due (take l.label-index l.label-items)) × (l.count ≤ l.label-index)
