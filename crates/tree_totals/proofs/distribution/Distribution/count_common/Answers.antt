use Rattle.std.proofs.Common.{◌≡◌, ℕ, ◌+◌, ◌<◌, ◌^◌, ◌&&◌, Bool, true, false, List, ap, arith, filter, length, subst, sym, ◌∙◌, zero-add, ℤ}
use Rattle.std.specs.BTreeMap.{BTreeMap, ContainsKey, IsOrdered, get, keys as keys_in}
use Rattle.std.specs.List.{All, sum_by}
use Rattle.std.specs.Prelude.{is_some}
use Rattle.std.proofs.lemmas.List.Elements.{All-head, All-tail}
use Rattle.tree_key.specs.Keys.{Key, key_cmp}
use Rattle.tree_model.specs.Shapes.{IsShape, is_interior, key_count}
use Rattle.tree_model.specs.TotalLaws.{cut_count, cuts_below}
use Rattle.tree_model.specs.Totals.{intersection, is_cut}
use Rattle.tree_model.specs.Trees.{Tree}
use Rattle.tree_model.proofs.CutLemmas.{cuts_below_interior, intersection_shape}
use Rattle.tree_totals.specs.Counts.{HasDifferences, distribution_of}
use Rattle.tree_totals.proofs.CountLemmas.{above_depth, common_keys, few_keys, filter_dropped, filter_kept, next_key, no_more}
use Rattle.tree_totals.proofs.distribution.Distribution.count_common.Goals as goal

-- the keys of one map that the other has
abbrev has_right : BTreeMap Key ℤ → Key → Bool
has_right right k = is_some (get key_cmp right k)

abbrev common : BTreeMap Key ℤ → BTreeMap Key ℤ → List Key
common left right = filter (has_right right) (keys_in left)

-- two trees of one depth are stored in two maps, the first of which is in order
record AreStored (f g : Tree) (left right : BTreeMap Key ℤ) : Type 0 where
  first : HasDifferences f left
  second : HasDifferences g right
  depth : f.depth ≡ g.depth
  order : IsOrdered key_cmp left

all_cuts : (owner : Key → ℕ) (f g : Tree) (left right : BTreeMap Key ℤ) → AreStored f g left right → sum_by (cuts_below owner) (common left right) ≡ cut_count owner f.depth (intersection f.shape g.shape)
all_cuts owner f g left right are =
    let other = subst (λ d. IsShape d g.shape) (sym are.depth) are.second.tree.shape in
    ap (sum_by (cuts_below owner)) (common_keys f g left right are.first are.second are.order)
    ∙ sym (cuts_below_interior owner f.depth (intersection f.shape g.shape) (intersection_shape f.depth f.shape g.shape are.first.tree.shape other))

few_cuts : (owner : Key → ℕ) (f g : Tree) (left : BTreeMap Key ℤ) → HasDifferences f left → cut_count owner f.depth (intersection f.shape g.shape) < 2 ^ 17
few_cuts owner f g left has = few_keys f.depth (λ k. intersection f.shape g.shape k && is_cut owner k) has.deep

all_keys : (f g : Tree) (left right : BTreeMap Key ℤ) → AreStored f g left right → length (common left right) ≡ key_count f.depth (is_interior (intersection f.shape g.shape))
all_keys f g left right are = ap length (common_keys f g left right are.first are.second are.order)

few_common : (f g : Tree) (left : BTreeMap Key ℤ) → HasDifferences f left → key_count f.depth (is_interior (intersection f.shape g.shape)) < 2 ^ 17
few_common f g left has = few_keys f.depth (is_interior (intersection f.shape g.shape)) has.deep

pub loop-key-init : goal.loop-key-init
loop-key-init c =
    let owner = (distribution_of c.args.self.now).owner in
    let m = c.args.left.now in
    let has : Key → Bool = has_right c.args.right.now in
    let is : c.into_iter-key-iterator.result ≡ keys_in m = c.into_iter-key-iterator.ensures.into_iter_gives ∙ c.keys-key-items.ensures.rest in
    record {
      interior = zero-add _ ∙ ap (λ ks. length (filter has ks)) is;
      cuts = zero-add _ ∙ ap (λ ks. sum_by (cuts_below owner) (filter has ks)) is;
      found = subst (All (ContainsKey key_cmp m)) (sym is) c.keys-key-items.ensures.found;
    }

pub cuts_below-cuts-requires : goal.cuts_below-cuts-requires
cuts_below-cuts-requires c =
    let m = c.args.left.now in
    let found = subst (All (ContainsKey key_cmp m)) c.in-Some.ensures.steps c.loop-key.invariant.found in
    above_depth c.requires.0 m c.in-Some.key.now c.requires.2 (All-head (ContainsKey key_cmp m) c.in-Some.key.now c.next.new.self found)

pub overflow_add-interior : goal.overflow_add-interior
overflow_add-interior c =
    let f = c.requires.0 in
    let g = c.requires.1 in
    let left = c.args.left.now in
    let right = c.args.right.now in
    let are : AreStored f g left right = record { first = c.requires.2; second = c.requires.3; depth = c.requires.4; order = c.keys-key-items.ensures.ordered } in
    let kept : has_right right c.in-Some.key.now ≡ true = sym c.contains_key.ensures ∙ c.if-contains_key.true in
    let long = ap length (filter_kept (has_right right) c.loop-key.key-iterator c.next.new.self c.in-Some.key.now kept c.in-Some.ensures.steps) in
    omega (arith, long, c.loop-key.invariant.interior, all_keys f g left right are, few_common f g left c.requires.2)

pub overflow_add-cuts : goal.overflow_add-cuts
overflow_add-cuts c =
    let owner = (distribution_of c.args.self.now).owner in
    let f = c.requires.0 in
    let g = c.requires.1 in
    let left = c.args.left.now in
    let right = c.args.right.now in
    let are : AreStored f g left right = record { first = c.requires.2; second = c.requires.3; depth = c.requires.4; order = c.keys-key-items.ensures.ordered } in
    let kept : has_right right c.in-Some.key.now ≡ true = sym c.contains_key.ensures ∙ c.if-contains_key.true in
    let next = next_key (cuts_below owner) c.loop-key.cuts _ (filter (has_right right) c.loop-key.key-iterator) (filter (has_right right) c.next.new.self) c.in-Some.key.now c.loop-key.invariant.cuts
    (filter_kept (has_right right) c.loop-key.key-iterator c.next.new.self c.in-Some.key.now kept c.in-Some.ensures.steps) in
    omega (arith, next, all_cuts owner f g left right are, few_cuts owner f g left c.requires.2)

pub loop-key-preserved-then-contains_key : goal.loop-key-preserved-then-contains_key
loop-key-preserved-then-contains_key c =
    let owner = (distribution_of c.args.self.now).owner in
    let left = c.args.left.now in
    let right = c.args.right.now in
    let kept : has_right right c.in-Some.key.now ≡ true = sym c.contains_key.ensures ∙ c.if-contains_key.true in
    let now = filter_kept (has_right right) c.loop-key.key-iterator c.next.new.self c.in-Some.key.now kept c.in-Some.ensures.steps in
    let next = next_key (cuts_below owner) c.loop-key.cuts _ (filter (has_right right) c.loop-key.key-iterator) (filter (has_right right) c.next.new.self) c.in-Some.key.now c.loop-key.invariant.cuts now in
    let found = subst (All (ContainsKey key_cmp left)) c.in-Some.ensures.steps c.loop-key.invariant.found in
    record {
      interior = omega (arith, ap length now, c.loop-key.invariant.interior);
      cuts = omega (arith, next);
      found = All-tail (ContainsKey key_cmp left) c.in-Some.key.now c.next.new.self found;
    }

pub loop-key-preserved : goal.loop-key-preserved
loop-key-preserved c =
    let owner = (distribution_of c.args.self.now).owner in
    let left = c.args.left.now in
    let right = c.args.right.now in
    let dropped : has_right right c.in-Some.key.now ≡ false = sym c.contains_key.ensures ∙ c.if-contains_key.false in
    let now = filter_dropped (has_right right) c.loop-key.key-iterator c.next.new.self c.in-Some.key.now dropped c.in-Some.ensures.steps in
    let found = subst (All (ContainsKey key_cmp left)) c.in-Some.ensures.steps c.loop-key.invariant.found in
    record {
      interior = ap (λ ks. c.loop-key.interior + length ks) (sym now) ∙ c.loop-key.invariant.interior;
      cuts = ap (λ ks. c.loop-key.cuts + sum_by (cuts_below owner) ks) (sym now) ∙ c.loop-key.invariant.cuts;
      found = All-tail (ContainsKey key_cmp left) c.in-Some.key.now c.next.new.self found;
    }

pub invariant_of-result : goal.invariant_of-result
invariant_of-result c =
    let owner = (distribution_of c.args.self.now).owner in
    let f = c.requires.0 in
    let g = c.requires.1 in
    let left = c.args.left.now in
    let right = c.args.right.now in
    let are : AreStored f g left right = record { first = c.requires.2; second = c.requires.3; depth = c.requires.4; order = c.keys-key-items.ensures.ordered } in
    let end = ap (filter (has_right right)) c.in-None.ensures.steps.0 in
    record {
      few_keys = omega (arith, ap length end, c.loop-key.invariant.interior, all_keys f g left right are, few_common f g left c.requires.2);
      few_cuts = omega (arith, no_more (cuts_below owner) c.loop-key.cuts _ _ c.loop-key.invariant.cuts end, all_cuts owner f g left right are, few_cuts owner f g left c.requires.2);
    }

pub returns : goal.returns
returns c = λ f g has_left has_right_tree same.
    let owner = (distribution_of c.args.self.now).owner in
    let left = c.args.left.now in
    let right = c.args.right.now in
    let are : AreStored f g left right = record { first = has_left; second = has_right_tree; depth = same; order = c.keys-key-items.ensures.ordered } in
    let end = ap (filter (has_right right)) c.in-None.ensures.steps.0 in
    record {
      interior = omega (arith, ap length end, c.loop-key.invariant.interior, all_keys f g left right are);
      cuts = no_more (cuts_below owner) c.loop-key.cuts _ _ c.loop-key.invariant.cuts end ∙ all_cuts owner f g left right are;
    }
