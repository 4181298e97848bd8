use Rattle.std.proofs.Common.{◌≡◌, ◌+◌, ◌∷◌, [], ◌∙◌, sym, ap, arith}
use Rattle.tree_model.specs.Project.{projected}
use Rattle.tree_model.specs.Rows.{leaf_sums_above}
use Rattle.tree_model.proofs.ProjectedTreeLemmas.{rows_follow_one_another, leaves_follow_rows}
use Rattle.tree_operations.specs.Projecting.{projection_of}
use Rattle.tree_operations.proofs.projecting.Projecting.leaves.Goals as goal

pub loop-level-init : goal.loop-level-init
loop-level-init c =
    let p = projection_of c.args.self.function c.args.self.level c.args.self.tolerance in
    record {
      row = c.in_ok-row.ensures.items ∙ ap (λ k. k ∷ []) c.root.ensures ∙ sym (rows_follow_one_another.first c.args.self.depth p);
      leaves = c.new-leaves.ensures.empty;
    }

pub returns : goal.returns
returns c =
    let p = projection_of c.args.self.function c.args.self.level c.args.self.tolerance in
    let all : c.loop-level.level ≡ c.args.self.depth + 1 = omega arith in
    c.loop-level.invariant.leaves ∙ ap (leaf_sums_above (projected c.args.self.depth p)) all ∙ leaves_follow_rows.all c.args.self.depth p
