-- What a map that stores a tree has of the tree's keys, and how many keys there are.
use Rattle.std.proofs.Common.{◌≡◌, ℕ, zero, suc, ◌+◌, ◌^◌, ◌<◌, ◌≤◌, List, [], ◌∷◌, ◌++◌, length, map, filter, Bool, true, false, cond, Some, None, refl, sym, ◌∙◌, ap, ap₂, subst, arith, add-one, zero-add, append-nil, length-append, ℤ}
use Rattle.std.specs.BTreeMap.{BTreeMap, ContainsKey, IsOrdered, get, keys as keys_in}
use Rattle.std.specs.List.{flat_map, range_with_len, sum_by}
use Rattle.std.specs.Prelude.{IsSome, is_some}
use Rattle.std.proofs.lemmas.Bool.{and_parts, true≢false}
use Rattle.std.proofs.lemmas.Grind.{flat_map-append}
use Rattle.std.proofs.lemmas.List.Sums.{sum_by-cons}
use Rattle.std.proofs.lemmas.List.FromFn.{length-map-range_with_len}
use Rattle.std.proofs.Math.Nat.{pow-le-pow_right}
use Rattle.tree_key.specs.Keys.{Key, child, key_cmp}
use Rattle.tree_key.proofs.PowerLemmas.{twice}
use Rattle.tree_model.specs.OperationTexts.{interior_keys}
use Rattle.tree_model.specs.Rows.{with_sum}
use Rattle.tree_model.specs.Shapes.{is_interior, key_count, keys, keys_on}
use Rattle.tree_model.specs.Texts.{leaves}
use Rattle.tree_model.specs.Totals.{intersection}
use Rattle.tree_model.specs.Trees.{IsTree, Tree, difference}
use Rattle.tree_model.proofs.BelowLeafLemmas.{key_parts}
use Rattle.tree_model.proofs.CutLemmas.{common_interior, keys_of_shapes}
use Rattle.tree_model.proofs.KeyCountLemmas.{keys_from_leaves}
use Rattle.tree_model.proofs.RangeLemmas.{range_more}
use Rattle.tree_model.proofs.StoredTreeLemmas.{differences_in_order, leaves_in_order}
use Rattle.tree_totals.specs.Counts.{HasDifferences, HasLeafSums}

-- ---- how many keys there are

abbrev keys_above : ℕ → List Key
keys_above level = flat_map keys_on (range_with_len 0 level)

keys_above_length : (level : ℕ) → length (keys_above level) + 1 ≡ 2 ^ level
keys_above_length zero = refl
keys_above_length (suc level) =
    let next : keys_above (level + 1) ≡ keys_above level ++ keys_on level =
    ap (λ levels. flat_map keys_on levels) (range_more 0 level) ∙ flat_map-append keys_on (range_with_len 0 level) ((0 + level) ∷ [])
    ∙ rw zero-add (ap (λ ks. keys_above level ++ ks) (append-nil (keys_on level))) in
    let long = ap length next ∙ length-append (keys_above level) (keys_on level) in
    let row = length-map-range_with_len (λ at. let k : Key = record { level = level; at = at } in k) 0 (2 ^ level) in
    let before = keys_above_length level in
    subst (λ n. length (keys_above n) + 1 ≡ 2 ^ n) (add-one level) (omega (arith, long, row, before, twice level))

filter_shorter : (test : Key → Bool) (ks : List Key) → length (filter test ks) ≤ length ks
filter_shorter test [] = omega arith
filter_shorter test (k ∷ ks) = go (test k) (filter_shorter test ks)
  where
    go : (b : Bool) → length (filter test ks) ≤ length ks → length (cond b (k ∷ filter test ks) (filter test ks)) ≤ suc (length ks)
    go true rest = omega (arith, rest)
    go false rest = omega (arith, rest)

pub few_keys : (depth : ℕ) (test : Key → Bool) → depth ≤ 16 → key_count depth test < 2 ^ 17
few_keys depth test deep =
    let short = filter_shorter test (keys depth) in
    let all = keys_above_length (depth + 1) in
    let order : depth + 1 ≤ 17 = omega arith in
    let most : 2 ^ (depth + 1) ≤ 2 ^ 17 = pow-le-pow_right (omega arith) order in
    omega (arith, short, all, most)

-- ---- the keys of a map

-- a function and then the first of a pair
first_of_pairs : {X : Type 0} (f : Key → Key × X) → ((k : Key) → (f k).0 ≡ k) → (ks : List Key) → map (λ e. e.0) (map f ks) ≡ ks
first_of_pairs f same [] = refl
first_of_pairs f same (k ∷ ks) = ap₂ (λ x rest. x ∷ rest) (same k) (first_of_pairs f same ks)

pub leaf_keys : (t : Tree) (m : BTreeMap Key ℤ) → HasLeafSums t m → IsOrdered key_cmp m → keys_in m ≡ leaves t
leaf_keys t m has order = ap (map (λ e. e.0)) (leaves_in_order t m has.tree order has.at) ∙ first_of_pairs (with_sum t) (λ k. refl) (leaves t)

pub interior_in : (t : Tree) (m : BTreeMap Key ℤ) → HasDifferences t m → IsOrdered key_cmp m → keys_in m ≡ interior_keys t
interior_in t m has order =
    ap (map (λ e. e.0)) (differences_in_order t m has.tree order has.at) ∙ first_of_pairs (λ k. (k, difference t k)) (λ k. refl) (interior_keys t)

-- a tree has one leaf more than keys with children
pub leaves_and_interior : (t : Tree) → IsTree t → length (leaves t) ≡ key_count t.depth (is_interior t.shape) + 1
leaves_and_interior t tree =
    let by_leaves = keys_from_leaves t tree in
    let by_interior = keys_of_shapes t.depth t.shape tree.shape in
    omega (arith, by_leaves, by_interior)

some_where : (b : Bool) (n : ℤ) → IsSome (cond b (Some n) None) → b ≡ true
some_where true n is = refl
some_where false n is = absurd (true≢false (sym is))

-- a key with a difference has children, and so is above the depth
pub above_depth : (t : Tree) (m : BTreeMap Key ℤ) (k : Key) → HasDifferences t m → ContainsKey key_cmp m k → k.level < 16
above_depth t m k has found =
    let there : is_interior t.shape k ≡ true = some_where (is_interior t.shape k) (difference t k) (subst (λ o. IsSome o) (has.at k) found) in
    let below = (and_parts (t.shape k) (t.shape (child k false)) there).1 in
    let parts = key_parts t.depth (child k false) (has.tree.shape.keys (child k false) below) in
    omega (arith, parts.level, has.deep)

some_test : (b : Bool) (n : ℤ) → is_some (cond b (Some n) None) ≡ b
some_test true n = refl
some_test false n = refl

-- a map has a difference exactly at the keys with children
has_test : (t : Tree) (m : BTreeMap Key ℤ) → HasDifferences t m → (ks : List Key) → filter (λ k. is_some (get key_cmp m k)) ks ≡ filter (is_interior t.shape) ks
has_test t m has [] = refl
has_test t m has (k ∷ ks) = ap₂ (λ b rest. cond b (k ∷ rest) rest) (ap is_some (has.at k) ∙ some_test (is_interior t.shape k) (difference t k)) (has_test t m has ks)

-- the keys of one map that the other has, of trees of one depth
pub common_keys : (f g : Tree) (left right : BTreeMap Key ℤ) → HasDifferences f left → HasDifferences g right → IsOrdered key_cmp left
    → filter (λ k. is_some (get key_cmp right k)) (keys_in left) ≡ filter (is_interior (intersection f.shape g.shape)) (keys f.depth)
common_keys f g left right has_left has_right order =
    ap (filter (λ k. is_some (get key_cmp right k))) (interior_in f left has_left order) ∙ has_test g right has_right (interior_keys f) ∙ sym (common_interior f.depth f.shape g.shape)

-- ---- a sum over the keys of a map, one by one

-- a sum so far, the next key, and the keys after it
pub next_key : (f : Key → ℕ) (sum all : ℕ) (now rest : List Key) (k : Key) → sum + sum_by f now ≡ all → now ≡ k ∷ rest → sum + f k + sum_by f rest ≡ all
next_key f sum all now rest k before is = omega (arith, before, ap (sum_by f) is ∙ sum_by-cons f k rest)

pub no_more : (f : Key → ℕ) (sum all : ℕ) (now : List Key) → sum + sum_by f now ≡ all → now ≡ [] → sum ≡ all
no_more f sum all now before is = omega (arith, before, ap (sum_by f) is)

-- of the next key and those after it, those that pass a test
pub filter_kept : (has : Key → Bool) (now rest : List Key) (k : Key) → has k ≡ true → now ≡ k ∷ rest → filter has now ≡ k ∷ filter has rest
filter_kept has now rest k kept is = ap (filter has) is ∙ ap (λ b. cond b (k ∷ filter has rest) (filter has rest)) kept

pub filter_dropped : (has : Key → Bool) (now rest : List Key) (k : Key) → has k ≡ false → now ≡ k ∷ rest → filter has now ≡ filter has rest
filter_dropped has now rest k dropped is = ap (filter has) is ∙ ap (λ b. cond b (k ∷ filter has rest) (filter has rest)) dropped
