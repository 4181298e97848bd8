use Rattle.std.proofs.Common.{◌≡◌, ◌+◌, Bool, filter, length}
use Rattle.std.specs.BTreeMap.{ContainsKey, get, keys}
use Rattle.std.specs.List.{All, sum_by}
use Rattle.std.specs.Prelude.{is_some}
use Rattle.tree_key.specs.Keys.{Key, key_cmp}
use Rattle.tree_model.specs.TotalLaws.{cuts_below}
use Rattle.tree_totals.specs.Counts.{distribution_of}
use Rattle.tree_totals.proofs.distribution.Distribution.count_common.Given as goal

abbrev pub invariant-loop-key : goal.invariant-loop-key
invariant-loop-key l =
    let owner = (distribution_of l.self).owner in
    let has : Key → Bool = λ k. is_some (get key_cmp l.right k) in
    record {
      interior : l.interior + length (filter has l.key-iterator) ≡ length (filter has (keys l.left));
      cuts : l.cuts + sum_by (cuts_below owner) (filter has l.key-iterator) ≡ sum_by (cuts_below owner) (filter has (keys l.left));
      found : All (ContainsKey key_cmp l.left) l.key-iterator;
    }
