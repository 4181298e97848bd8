-- Lemmas that crates above use: the number of a tree's keys, level by level.
use Rattle.std.proofs.Common.{◌≡◌, ℕ, zero, suc, ◌+◌, ◌*◌, List, [], ◌∷◌, ◌++◌, length, filter, Bool, true, false, not, cond, ◌&&◌, inl, inr, refl, ◌∙◌, ap, subst, arith, add-one, zero-add, length-append, append-nil}
use Rattle.std.specs.List.{flat_map, range_with_len, AllByRecursion}
use Rattle.std.proofs.lemmas.Bool.{cases_Bool, and_right}
use Rattle.std.proofs.lemmas.Grind.{flat_map-append}
use Rattle.std.proofs.lemmas.List.Elements.{filter-append}
use Rattle.tree_key.specs.Keys.{Key, child}
use Rattle.tree_model.specs.CoarseningLaws.{KeysFromInterior, KeysFromLeaves}
use Rattle.tree_model.specs.Rows.{both}
use Rattle.tree_model.specs.Shapes.{IsShape, keys_on, keys, is_leaf, is_interior}
use Rattle.tree_model.proofs.BelowLeafLemmas.{key_parts}
use Rattle.tree_model.proofs.RangeLemmas.{range_more}
use Rattle.tree_model.proofs.RowLemmas.{all_keys_on, keys_on_next}

-- how many of some keys are in a set
abbrev count : (Key → Bool) → List Key → ℕ
count test ks = length (filter test ks)

count_append : (test : Key → Bool) (ks ls : List Key) → count test (ks ++ ls) ≡ count test ks + count test ls
count_append test ks ls = ap length (filter-append test ks ls) ∙ length-append (filter test ks) (filter test ls)

-- a key has children, or is a leaf
one_of_two : (inside below : Bool) (rest whole part : ℕ) → rest ≡ whole + part → cond inside (suc rest) rest ≡ cond (inside && not below) (suc whole) whole + cond (inside && below) (suc part) part
one_of_two true true rest whole part same = omega (arith, same)
one_of_two true false rest whole part same = omega (arith, same)
one_of_two false below rest whole part same = same

length_cond : (b : Bool) (k : Key) (ks : List Key) → length (cond b (k ∷ ks) ks) ≡ cond b (suc (length ks)) (length ks)
length_cond true k ks = refl
length_cond false k ks = refl

count_parts : (shape : Key → Bool) (ks : List Key) → count shape ks ≡ count (is_leaf shape) ks + count (is_interior shape) ks
count_parts shape [] = omega arith
count_parts shape (k ∷ ks) =
    let leaf = filter (is_leaf shape) ks in
    let inner = filter (is_interior shape) ks in
    rw (length_cond (shape k) k (filter shape ks), length_cond (is_leaf shape k) k leaf, length_cond (is_interior shape k) k inner)
    (one_of_two (shape k) (shape (child k false)) (count shape ks) (length leaf) (length inner) (count_parts shape ks))

-- each key with children has two
two_children : (inside left right : Bool) (k : Key) (rest : List Key) (others : ℕ) → (left ≡ true → inside ≡ true) → right ≡ left → length rest ≡ 2 * others → length (cond left (child k false ∷ cond right (child k true ∷ rest) rest) (cond right (child k true ∷ rest) rest)) ≡ 2 * cond (inside && left) (suc others) others
two_children inside true right k rest others up same long = rw (same, up refl) (omega (arith, long))
two_children true false right k rest others up same long = rw same long
two_children false false right k rest others up same long = rw same long

children_count : (depth : ℕ) (shape : Key → Bool) (ks : List Key) → IsShape depth shape → count shape (flat_map both ks) ≡ 2 * count (is_interior shape) ks
children_count depth shape [] is = refl
children_count depth shape (k ∷ ks) is =
    let inner = filter (is_interior shape) ks in
    rw (length_cond (is_interior shape k) k inner)
    (two_children (shape k) (shape (child k false)) (shape (child k true)) k (filter shape (flat_map both ks)) (length inner) (is.parents k false) (is.children k) (children_count depth shape ks is))

-- the keys of the levels above a level
abbrev keys_above : ℕ → List Key
keys_above level = flat_map keys_on (range_with_len 0 level)

keys_above_next : (level : ℕ) → keys_above (level + 1) ≡ keys_above level ++ keys_on level
keys_above_next level =
    ap (λ levels. flat_map keys_on levels) (range_more 0 level)
    ∙ flat_map-append keys_on (range_with_len 0 level) ((0 + level) ∷ [])
    ∙ rw zero-add (ap (λ ks. keys_above level ++ ks) (append-nil (keys_on level)))

-- the keys down to a level are the root, and the children of those above the level
keys_down : (depth level : ℕ) (shape : Key → Bool) → IsShape depth shape → count shape (keys_above (level + 1)) ≡ 2 * count (is_interior shape) (keys_above level) + 1
keys_down depth zero shape is = rw is.root refl
keys_down depth (suc level) shape is =
    let above = keys_down depth level shape is in
    let here = children_count depth shape (keys_on level) is in
    let next : count shape (keys_on (level + 1)) ≡ 2 * count (is_interior shape) (keys_on level) = (ap (count shape) (keys_on_next level) ∙ here) in
    let whole = ap (count shape) (keys_above_next (level + 1)) ∙ count_append shape (keys_above (level + 1)) (keys_on (level + 1)) in
    let part = ap (count (is_interior shape)) (keys_above_next level) ∙ count_append (is_interior shape) (keys_above level) (keys_on level) in
    subst (λ n. count shape (keys_above (n + 1)) ≡ 2 * count (is_interior shape) (keys_above n) + 1) (add-one level) (omega (arith, above, next, whole, part))

-- no key of the depth has children
none_at_depth : (depth : ℕ) (shape : Key → Bool) (k : Key) → IsShape depth shape → k.level ≡ depth → is_interior shape k ≡ false
none_at_depth depth shape k is at = elim (cases_Bool (shape (child k false))) [
  | inl there ↦
      let key = key_parts depth (child k false) (is.keys (child k false) there) in
      absurd (omega (arith, key.level))
  | inr none ↦ and_right (shape k) (shape (child k false)) none
]

none_pass : (test : Key → Bool) (ks : List Key) → AllByRecursion (λ k. test k ≡ false) ks → count test ks ≡ 0
none_pass test [] none = refl
none_pass test (k ∷ ks) none = rw none.0 (none_pass test ks none.1)

pub keys_from_interior : KeysFromInterior
keys_from_interior t tree =
    let shape = t.shape in
    let down = keys_down t.depth t.depth shape tree.shape in
    let last = none_pass (is_interior shape) (keys_on t.depth) (all_keys_on (λ k. is_interior shape k ≡ false) t.depth (λ k on. none_at_depth t.depth shape k tree.shape on.level)) in
    let all = ap (count (is_interior shape)) (keys_above_next t.depth) ∙ count_append (is_interior shape) (keys_above t.depth) (keys_on t.depth) in
    omega (arith, down, last, all)

pub keys_from_leaves : KeysFromLeaves
keys_from_leaves t tree =
    let both = count_parts t.shape (keys t.depth) in
    let inner = keys_from_interior t tree in
    omega (arith, both, inner)
