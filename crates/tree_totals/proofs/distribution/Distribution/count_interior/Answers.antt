use Rattle.std.proofs.Common.{◌≡◌, ℕ, ◌<◌, ◌^◌, ◌&&◌, ap, arith, length, subst, sym, ◌∙◌, zero-add, ℤ}
use Rattle.std.specs.BTreeMap.{BTreeMap, ContainsKey, IsOrdered, keys as keys_in}
use Rattle.std.specs.List.{All, sum_by}
use Rattle.std.proofs.lemmas.List.Elements.{All-head, All-tail}
use Rattle.tree_key.specs.Keys.{Key, key_cmp}
use Rattle.tree_model.specs.Shapes.{is_interior, key_count}
use Rattle.tree_model.specs.TotalLaws.{cut_count, cuts_below}
use Rattle.tree_model.specs.Totals.{is_cut}
use Rattle.tree_model.specs.Trees.{Tree}
use Rattle.tree_model.proofs.CutLemmas.{cuts_below_interior}
use Rattle.tree_totals.specs.Counts.{HasDifferences, distribution_of}
use Rattle.tree_totals.proofs.CountLemmas.{above_depth, few_keys, interior_in, next_key, no_more}
use Rattle.tree_totals.proofs.distribution.Distribution.count_interior.Goals as goal

all_cuts : (owner : Key → ℕ) (t : Tree) (m : BTreeMap Key ℤ) → HasDifferences t m → IsOrdered key_cmp m → sum_by (cuts_below owner) (keys_in m) ≡ cut_count owner t.depth t.shape
all_cuts owner t m has order = ap (sum_by (cuts_below owner)) (interior_in t m has order) ∙ sym (cuts_below_interior owner t.depth t.shape has.tree.shape)

few_cuts : (owner : Key → ℕ) (t : Tree) (m : BTreeMap Key ℤ) → HasDifferences t m → cut_count owner t.depth t.shape < 2 ^ 17
few_cuts owner t m has = few_keys t.depth (λ k. t.shape k && is_cut owner k) has.deep

all_keys : (t : Tree) (m : BTreeMap Key ℤ) → HasDifferences t m → IsOrdered key_cmp m → length (keys_in m) ≡ key_count t.depth (is_interior t.shape)
all_keys t m has order = ap length (interior_in t m has order)

pub loop-key-init : goal.loop-key-init
loop-key-init c =
    let owner = (distribution_of c.args.self.now).owner in
    let m = c.args.differences.now in
    let is : c.into_iter-key-iterator.result ≡ keys_in m = c.into_iter-key-iterator.ensures.into_iter_gives ∙ c.keys-key-items.ensures.rest in
    record {
      cuts = zero-add _ ∙ ap (sum_by (cuts_below owner)) is;
      found = subst (All (ContainsKey key_cmp m)) (sym is) c.keys-key-items.ensures.found;
    }

pub cuts_below-cuts-requires : goal.cuts_below-cuts-requires
cuts_below-cuts-requires c =
    let found = subst (All (ContainsKey key_cmp c.args.differences.now)) c.in-Some.ensures.steps c.loop-key.invariant.found in
    above_depth c.requires.0 c.args.differences.now c.in-Some.key.now c.requires.1 (All-head (ContainsKey key_cmp c.args.differences.now) c.in-Some.key.now c.next.new.self found)

pub overflow_add-cuts : goal.overflow_add-cuts
overflow_add-cuts c =
    let owner = (distribution_of c.args.self.now).owner in
    let next = next_key (cuts_below owner) c.loop-key.cuts _ c.loop-key.key-iterator c.next.new.self c.in-Some.key.now c.loop-key.invariant.cuts c.in-Some.ensures.steps in
    omega (arith, next, all_cuts owner c.requires.0 c.args.differences.now c.requires.1 c.keys-key-items.ensures.ordered, few_cuts owner c.requires.0 c.args.differences.now c.requires.1)

pub loop-key-preserved : goal.loop-key-preserved
loop-key-preserved c =
    let owner = (distribution_of c.args.self.now).owner in
    let found = subst (All (ContainsKey key_cmp c.args.differences.now)) c.in-Some.ensures.steps c.loop-key.invariant.found in
    let next = next_key (cuts_below owner) c.loop-key.cuts _ c.loop-key.key-iterator c.next.new.self c.in-Some.key.now c.loop-key.invariant.cuts c.in-Some.ensures.steps in
    record {
      cuts = omega (arith, next);
      found = All-tail (ContainsKey key_cmp c.args.differences.now) c.in-Some.key.now c.next.new.self found;
    }

pub invariant_of-result : goal.invariant_of-result
invariant_of-result c =
    let owner = (distribution_of c.args.self.now).owner in
    let t = c.requires.0 in
    let m = c.args.differences.now in
    let order = c.keys-key-items.ensures.ordered in
    let end = no_more (cuts_below owner) c.loop-key.cuts _ c.loop-key.key-iterator c.loop-key.invariant.cuts c.in-None.ensures.steps.0 in
    record {
      few_keys = omega (arith, all_keys t m c.requires.1 order, ap length c.keys-key-items.ensures.rest, few_keys t.depth (is_interior t.shape) c.requires.1.deep);
      few_cuts = omega (arith, end, all_cuts owner t m c.requires.1 order, few_cuts owner t m c.requires.1);
    }

pub returns : goal.returns
returns c = λ t has.
    let owner = (distribution_of c.args.self.now).owner in
    let m = c.args.differences.now in
    let order = c.keys-key-items.ensures.ordered in
    let end = no_more (cuts_below owner) c.loop-key.cuts _ c.loop-key.key-iterator c.loop-key.invariant.cuts c.in-None.ensures.steps.0 in
    record {
      interior = omega (arith, all_keys t m has order, ap length c.keys-key-items.ensures.rest);
      cuts = end ∙ all_cuts owner t m has order;
    }
