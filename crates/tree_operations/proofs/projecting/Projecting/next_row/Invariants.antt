use Rattle.std.proofs.Common.{◌≡◌, ◌++◌, map, take}
use Rattle.std.specs.List.{flat_map}
use Rattle.tree_model.specs.Project.{projected}
use Rattle.tree_model.specs.Rows.{halves, whole_keys, with_sum, leaf_sums_above}
use Rattle.tree_operations.specs.Projecting.{projection_of}
use Rattle.tree_operations.proofs.projecting.Projecting.next_row.Given as goal

abbrev pub invariant-loop-key : goal.invariant-loop-key
invariant-loop-key l =
    let p = projection_of l.self.function l.self.level l.self.tolerance in
    let t = projected l.self.depth p in
    record {
      next : l.next.items ≡ flat_map (halves l.self.depth p) (take l.key-index l.row);
      leaves : l.leaves.entries ≡ leaf_sums_above t l.level ++ map (with_sum t) (whole_keys l.self.depth p (take l.key-index l.row));
    }
