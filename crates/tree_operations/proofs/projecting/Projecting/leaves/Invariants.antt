use Rattle.std.proofs.Common.{◌≡◌}
use Rattle.tree_model.specs.Project.{projected}
use Rattle.tree_model.specs.Rows.{row, leaf_sums_above}
use Rattle.tree_operations.specs.Projecting.{projection_of}
use Rattle.tree_operations.proofs.projecting.Projecting.leaves.Given as goal

abbrev pub invariant-loop-level : goal.invariant-loop-level
invariant-loop-level l =
    let p = projection_of l.self.function l.self.level l.self.tolerance in
    record {
      row : l.row.items ≡ row l.self.depth p l.level;
      leaves : l.leaves.entries ≡ leaf_sums_above (projected l.self.depth p) l.level;
    }
