use Rattle.std.proofs.Common.{◌≡◌, ◌+◌, ◌≤◌, ◌++◌, length, take}
use Rattle.app_core.proofs.effects.add_labels.Given as goal

abbrev pub invariant-loop-label : goal.invariant-loop-label
invariant-loop-label l =
    (l.all.items ≡ l.initial.all.items ++ take l.label-index l.labels) × (length l.initial.all.items + length l.labels ≤ l.all.capacity)
