use Rattle.std.proofs.Common.{◌≡◌, ◌+◌}
use Rattle.std.specs.BTreeMap.{ContainsKey, keys}
use Rattle.std.specs.List.{All, sum_by}
use Rattle.tree_key.specs.Keys.{key_cmp}
use Rattle.tree_model.specs.TotalLaws.{cuts_below}
use Rattle.tree_totals.specs.Counts.{distribution_of}
use Rattle.tree_totals.proofs.distribution.Distribution.count_interior.Given as goal

abbrev pub invariant-loop-key : goal.invariant-loop-key
invariant-loop-key l =
    let owner = (distribution_of l.self).owner in
    record {
      cuts : l.cuts + sum_by (cuts_below owner) l.key-iterator ≡ sum_by (cuts_below owner) (keys l.differences);
      found : All (ContainsKey key_cmp l.differences) l.key-iterator;
    }
