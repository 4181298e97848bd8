use Rattle.std.proofs.Common.{◌≡◌, ◌++◌, map, take, true, false, sym, ◌∙◌, ap, arith, rules, w64, FitsSigned}
use Rattle.std.specs.List.{flat_map}
use Rattle.std.proofs.lemmas.List.{take_all}
use Rattle.std.proofs.lemmas.Int.{to_z-of_z}
use Rattle.tree_model.specs.Project.{projected, is_split}
use Rattle.tree_model.specs.Rows.{halves, with_sum, whole_keys, leaf_sums_above}
use Rattle.tree_model.specs.Trees.{box_sum}
use Rattle.tree_model.proofs.LeafLemmas.{box_sum_leaf}
use Rattle.tree_model.proofs.ProjectedTreeLemmas.{rows_follow_one_another, leaves_follow_rows}
use Rattle.tree_model.proofs.RowStepLemmas.{leaf_put, leaf_kept, next_kept, next_grown, row_at, row_leaf}
use Rattle.tree_operations.specs.Projecting.{projection_of}
use Rattle.tree_operations.proofs.projecting.Projecting.next_row.Goals as goal
use Rattle.tree_operations.proofs.projecting.Projecting.next_row.Goals.{then-is_split+in_ok-push+in_ok-push-2, else-is_split+in_ok-insert}

pub leaf_sum-requires : goal.leaf_sum-requires
leaf_sum-requires c =
    let p = projection_of c.args.self.function c.args.self.level c.args.self.tolerance in
    let here = row_at c.args.self.depth p c.args.level c.loop-key.key-index c.args.row.now c.key-item.result c.requires.row c.loop-key-test.true c.key-item.is in
    omega (arith, here.on.level, c.requires.level)

pub loop-key-preserved : goal.loop-key-preserved
loop-key-preserved c =
    let depth = c.args.self.depth in
    let p = projection_of c.args.self.function c.args.self.level c.args.self.tolerance in
    let ks = c.args.row.now in
    let i = c.loop-key.key-index in
    let k = c.key-item.result in
    elim c.if-is_split.branch [
      | then-is_split+in_ok-push+in_ok-push-2 w ↦ (
          let split : is_split depth p k ≡ true = (sym c.is_split.ensures ∙ w.if-is_split.true) in
          record {
            next = rw (next_grown depth p i ks k c.loop-key-test.true c.key-item.is split, w.next-is) (cc (w.in_ok-push.ensures.items, w.in_ok-push-2.ensures.items));
            leaves = rw (leaf_kept depth p i ks k c.loop-key-test.true c.key-item.is split, w.leaves-is) c.loop-key.invariant.leaves;
          }
          )
      | else-is_split+in_ok-insert w ↦ (
          let whole : is_split depth p k ≡ false = (sym c.is_split.ensures ∙ w.if-is_split.false) in
          let here = row_at depth p c.args.level i ks k c.requires.row c.loop-key-test.true c.key-item.is in
          let fits : FitsSigned w64 w.leaf_sum.result = search rules in
          let sum : w.leaf_sum.result ≡ box_sum (projected depth p) k = (w.leaf_sum.ensures ∙ sym (box_sum_leaf depth p k (row_leaf depth p c.args.level k here whole))) in
          record {
            next = rw (next_kept depth p i ks k c.loop-key-test.true c.key-item.is whole, w.next-is) c.loop-key.invariant.next;
            leaves = rw (w.leaves-is, w.in_ok-insert.ensures.entries, to_z-of_z w64 w.leaf_sum.result fits, sum) (leaf_put depth p c.args.level i ks k c.loop-key.leaves.entries c.requires.row c.loop-key-test.true c.key-item.is whole c.loop-key.invariant.leaves);
          }
          )
    ]

pub returns-clause-next : goal.returns-clause-next
returns-clause-next c =
    let depth = c.args.self.depth in
    let p = projection_of c.args.self.function c.args.self.level c.args.self.tolerance in
    let all : take c.loop-key.key-index c.args.row.now ≡ c.args.row.now = take_all _ _ (omega arith) in
    c.loop-key.invariant.next ∙ ap (flat_map (halves depth p)) (all ∙ c.requires.row) ∙ rows_follow_one_another.next depth p c.args.level

pub returns-clause-leaves : goal.returns-clause-leaves
returns-clause-leaves c =
    let depth = c.args.self.depth in
    let p = projection_of c.args.self.function c.args.self.level c.args.self.tolerance in
    let t = projected depth p in
    let all : take c.loop-key.key-index c.args.row.now ≡ c.args.row.now = take_all _ _ (omega arith) in
    c.loop-key.invariant.leaves
    ∙ ap (λ ks. leaf_sums_above t c.args.level ++ map (with_sum t) (whole_keys depth p ks)) (all ∙ c.requires.row)
    ∙ sym (leaves_follow_rows.next depth p c.args.level)
