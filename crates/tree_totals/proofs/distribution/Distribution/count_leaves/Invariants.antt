use Rattle.std.proofs.Common.{◌≡◌, ◌+◌}
use Rattle.std.specs.BTreeMap.{keys}
use Rattle.std.specs.List.{sum_by}
use Rattle.tree_model.specs.TotalLaws.{cuts_up}
use Rattle.tree_totals.specs.Counts.{distribution_of}
use Rattle.tree_totals.proofs.distribution.Distribution.count_leaves.Given as goal

abbrev pub invariant-loop-key : goal.invariant-loop-key
invariant-loop-key l =
    let owner = (distribution_of l.self).owner in
    l.cuts + sum_by (cuts_up owner) l.key-iterator ≡ sum_by (cuts_up owner) (keys l.leaves)
