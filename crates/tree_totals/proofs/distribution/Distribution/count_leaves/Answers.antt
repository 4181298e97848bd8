use Rattle.std.proofs.Common.{◌≡◌, ℕ, ◌+◌, ◌<◌, ◌^◌, ◌&&◌, ap, arith, length, sym, ◌∙◌, ℤ}
use Rattle.std.specs.BTreeMap.{BTreeMap, IsOrdered, keys as keys_in}
use Rattle.std.specs.List.{sum_by}
use Rattle.tree_key.specs.Keys.{Key, key_cmp}
use Rattle.tree_model.specs.Shapes.{is_interior, key_count}
use Rattle.tree_model.specs.TotalLaws.{cut_count, cuts_up}
use Rattle.tree_model.specs.Totals.{is_cut}
use Rattle.tree_model.specs.Trees.{Tree}
use Rattle.tree_model.proofs.CutLemmas.{cuts_above_leaves}
use Rattle.tree_totals.specs.Counts.{HasLeafSums, distribution_of}
use Rattle.tree_totals.proofs.CountLemmas.{few_keys, leaf_keys, leaves_and_interior, next_key, no_more}
use Rattle.tree_totals.proofs.distribution.Distribution.count_leaves.Goals as goal

all_cuts : (owner : Key → ℕ) (t : Tree) (m : BTreeMap Key ℤ) → HasLeafSums t m → IsOrdered key_cmp m → sum_by (cuts_up owner) (keys_in m) ≡ cut_count owner t.depth t.shape
all_cuts owner t m has order = ap (sum_by (cuts_up owner)) (leaf_keys t m has order) ∙ sym (cuts_above_leaves owner t.depth t.shape has.tree.shape)

few_cuts : (owner : Key → ℕ) (t : Tree) (m : BTreeMap Key ℤ) → HasLeafSums t m → cut_count owner t.depth t.shape < 2 ^ 17
few_cuts owner t m has = few_keys t.depth (λ k. t.shape k && is_cut owner k) has.deep

all_keys : (t : Tree) (m : BTreeMap Key ℤ) → HasLeafSums t m → IsOrdered key_cmp m → length (keys_in m) ≡ key_count t.depth (is_interior t.shape) + 1
all_keys t m has order = ap length (leaf_keys t m has order) ∙ leaves_and_interior t has.tree

pub overflow_add-cuts : goal.overflow_add-cuts
overflow_add-cuts c =
    let owner = (distribution_of c.args.self.now).owner in
    let next = next_key (cuts_up owner) c.loop-key.cuts _ c.loop-key.key-iterator c.next.new.self c.in-Some.key.now c.loop-key.invariant c.in-Some.ensures.steps in
    omega (arith, next, all_cuts owner c.requires.0 c.args.leaves.now c.requires.1 c.keys-key-items.ensures.ordered, few_cuts owner c.requires.0 c.args.leaves.now c.requires.1)

pub overflow_sub-result : goal.overflow_sub-result
overflow_sub-result c = omega (arith, all_keys c.requires.0 c.args.leaves.now c.requires.1 c.keys-key-items.ensures.ordered, ap length c.keys-key-items.ensures.rest)

pub invariant_of-result : goal.invariant_of-result
invariant_of-result c =
    let owner = (distribution_of c.args.self.now).owner in
    let t = c.requires.0 in
    let m = c.args.leaves.now in
    let order = c.keys-key-items.ensures.ordered in
    let end = no_more (cuts_up owner) c.loop-key.cuts _ c.loop-key.key-iterator c.loop-key.invariant c.in-None.ensures.steps.0 in
    record {
      few_keys = omega (arith, all_keys t m c.requires.1 order, ap length c.keys-key-items.ensures.rest, few_keys t.depth (is_interior t.shape) c.requires.1.deep);
      few_cuts = omega (arith, end, all_cuts owner t m c.requires.1 order, few_cuts owner t m c.requires.1);
    }

pub returns : goal.returns
returns c = λ t has.
    let owner = (distribution_of c.args.self.now).owner in
    let m = c.args.leaves.now in
    let order = c.keys-key-items.ensures.ordered in
    let end = no_more (cuts_up owner) c.loop-key.cuts _ c.loop-key.key-iterator c.loop-key.invariant c.in-None.ensures.steps.0 in
    record {
      interior = omega (arith, all_keys t m has order, ap length c.keys-key-items.ensures.rest);
      cuts = end ∙ all_cuts owner t m has order;
    }
