-- Lemmas that crates above use: sums over the keys of a shape, level by level: its edges whose ends have two owners, and what coarsening erases.
use Rattle.std.proofs.Common.{◌≡◌, ℕ, zero, suc, ◌+◌, ◌*◌, ◌/◌, ◌%◌, ◌==◌, List, [], ◌∷◌, ◌++◌, length, filter, Bool, true, false, not, cond, ◌&&◌, inl, inr, refl, sym, ◌∙◌, ap, ap₂, subst, arith, add-one, add-zero, zero-add, append-nil}
use Rattle.std.specs.List.{flat_map, range_with_len, AllByRecursion, sum_by}
use Rattle.std.proofs.lemmas.Bool.{cases_Bool, and_right, eq-eqb, ne_eqb, true≢false}
use Rattle.std.proofs.lemmas.Grind.{flat_map-append}
use Rattle.std.proofs.lemmas.List.Elements.{filter-append}
use Rattle.std.proofs.lemmas.List.Sums.{sum_by-append, sum_by-cons}
use Rattle.tree_key.specs.Keys.{Key, child}
use Rattle.tree_model.specs.Operations.{coarsened}
use Rattle.tree_model.specs.Rows.{both}
use Rattle.tree_model.specs.Shapes.{IsShape, keys_on, keys, is_leaf, is_interior}
use Rattle.tree_model.specs.TotalLaws.{CommonInterior, CutsAboveLeaves, CutsBelowInterior, ErasedCuts, ErasedKeys, IntersectionIsShape, KeysOfShapes, cut, cuts_below, cuts_from, cuts_up}
use Rattle.tree_model.specs.Totals.{intersection, is_cut}
use Rattle.tree_model.specs.Trees.{Tree, IsTree}
use Rattle.tree_model.proofs.BelowLeafLemmas.{key_parts}
use Rattle.tree_model.proofs.CoarsenedTreeLemmas.{coarsened_least}
use Rattle.tree_model.proofs.ListLemmas.{filter_filter}
use Rattle.tree_model.proofs.RangeLemmas.{range_more}
use Rattle.tree_model.proofs.RowLemmas.{all_keys_on, keys_on_next}

-- ---- sums over the keys of a set

abbrev total_of : (Key → ℕ) → (Key → Bool) → List Key → ℕ
total_of f test ks = sum_by f (filter test ks)

total_append : (f : Key → ℕ) (test : Key → Bool) (ks ls : List Key) → total_of f test (ks ++ ls) ≡ total_of f test ks + total_of f test ls
total_append f test ks ls = ap (sum_by f) (filter-append test ks ls) ∙ sum_by-append f (filter test ks) (filter test ls)

total_cons : (f : Key → ℕ) (test : Key → Bool) (k : Key) (ks : List Key) → total_of f test (k ∷ ks) ≡ cond (test k) (f k) 0 + total_of f test ks
total_cons f test k ks = go (test k)
  where
    go : (b : Bool) → sum_by f (cond b (k ∷ filter test ks) (filter test ks)) ≡ cond b (f k) 0 + sum_by f (filter test ks)
    go true = sum_by-cons f k (filter test ks)
    go false = sym (zero-add (sum_by f (filter test ks)))

-- a key is a leaf, or has children
leaf_or_not : (inside below : Bool) (n : ℕ) → cond inside n 0 ≡ cond (inside && not below) n 0 + cond (inside && below) n 0
leaf_or_not true true n = sym (zero-add n)
leaf_or_not true false n = omega arith
leaf_or_not false below n = refl

total_parts : (f : Key → ℕ) (shape : Key → Bool) (ks : List Key) → total_of f shape ks ≡ total_of f (is_leaf shape) ks + total_of f (is_interior shape) ks
total_parts f shape [] = refl
total_parts f shape (k ∷ ks) =
    let here = leaf_or_not (shape k) (shape (child k false)) (f k) in
    let rest = total_parts f shape ks in
    omega (arith, here, rest, total_cons f shape k ks, total_cons f (is_leaf shape) k ks, total_cons f (is_interior shape) k ks)

-- what a key's children come to
abbrev of_children : (Key → ℕ) → Key → ℕ
of_children f k = f (child k false) + f (child k true)

two_children : (inside left right : Bool) (m n : ℕ) → (left ≡ true → inside ≡ true) → right ≡ left → cond left m 0 + cond right n 0 ≡ cond (inside && left) (m + n) 0
two_children inside true right m n up same = rw (same, up refl) refl
two_children true false right m n up same = rw same refl
two_children false false right m n up same = rw same refl

total_children : (f : Key → ℕ) (depth : ℕ) (shape : Key → Bool) (ks : List Key) → IsShape depth shape → total_of f shape (flat_map both ks) ≡ total_of (of_children f) (is_interior shape) ks
total_children f depth shape [] is = refl
total_children f depth shape (k ∷ ks) is =
    let here = two_children (shape k) (shape (child k false)) (shape (child k true)) (f (child k false)) (f (child k true)) (is.parents k false) (is.children k) in
    let rest = total_children f depth shape ks is in
    let left = total_cons f shape (child k false) (child k true ∷ flat_map both ks) in
    let right = total_cons f shape (child k true) (flat_map both ks) in
    omega (arith, here, rest, left, right, total_cons (of_children f) (is_interior shape) k ks)

total_agree : (f g : Key → ℕ) (test : Key → Bool) (ks : List Key) → AllByRecursion (λ k. f k ≡ g k) ks → total_of f test ks ≡ total_of g test ks
total_agree f g test [] all = refl
total_agree f g test (k ∷ ks) all =
    total_cons f test k ks ∙ ap₂ (λ m n. cond (test k) m 0 + n) all.0 (total_agree f g test ks all.1) ∙ sym (total_cons g test k ks)

spread_cond : (b : Bool) (m n : ℕ) → cond b (m + n) 0 ≡ cond b m 0 + cond b n 0
spread_cond true m n = refl
spread_cond false m n = refl

total_plus : (f g : Key → ℕ) (test : Key → Bool) (ks : List Key) → total_of (λ k. f k + g k) test ks ≡ total_of f test ks + total_of g test ks
total_plus f g test [] = refl
total_plus f g test (k ∷ ks) =
    let here = spread_cond (test k) (f k) (g k) in
    let rest = total_plus f g test ks in
    omega (arith, here, rest, total_cons (λ x. f x + g x) test k ks, total_cons f test k ks, total_cons g test k ks)

-- ---- levels

abbrev keys_above : ℕ → List Key
keys_above level = flat_map keys_on (range_with_len 0 level)

keys_above_next : (level : ℕ) → keys_above (level + 1) ≡ keys_above level ++ keys_on level
keys_above_next level =
    ap (λ levels. flat_map keys_on levels) (range_more 0 level)
    ∙ flat_map-append keys_on (range_with_len 0 level) ((0 + level) ∷ [])
    ∙ rw zero-add (ap (λ ks. keys_above level ++ ks) (append-nil (keys_on level)))

one_more_level : (f : Key → ℕ) (test : Key → Bool) (level : ℕ) → total_of f test (keys_above (level + 1)) ≡ total_of f test (keys_above level) + total_of f test (keys_on level)
one_more_level f test level = ap (total_of f test) (keys_above_next level) ∙ total_append f test (keys_above level) (keys_on level)

-- the keys of the next level are the children of those with children
next_level : (f : Key → ℕ) (depth : ℕ) (shape : Key → Bool) (level : ℕ) → IsShape depth shape → total_of f shape (keys_on (level + 1)) ≡ total_of (of_children f) (is_interior shape) (keys_on level)
next_level f depth shape level is = ap (total_of f shape) (keys_on_next level) ∙ total_children f depth shape (keys_on level) is

none_pass : (f : Key → ℕ) (test : Key → Bool) (ks : List Key) → AllByRecursion (λ k. test k ≡ false) ks → total_of f test ks ≡ 0
none_pass f test [] none = refl
none_pass f test (k ∷ ks) none = total_cons f test k ks ∙ rw none.0 (zero-add _ ∙ none_pass f test ks none.1)

-- no key of the depth has children
none_at_depth : (depth : ℕ) (shape : Key → Bool) (k : Key) → IsShape depth shape → k.level ≡ depth → is_interior shape k ≡ false
none_at_depth depth shape k is at = elim (cases_Bool (shape (child k false))) [
  | inl there ↦
      let key = key_parts depth (child k false) (is.keys (child k false) there) in
      absurd (omega (arith, key.level))
  | inr none ↦ and_right (shape k) (shape (child k false)) none
]

last_level : (f : Key → ℕ) (depth : ℕ) (shape : Key → Bool) → IsShape depth shape → total_of f (is_interior shape) (keys_on depth) ≡ 0
last_level f depth shape is =
    none_pass f (is_interior shape) (keys_on depth) (all_keys_on (λ k. is_interior shape k ≡ false) depth (λ k on. none_at_depth depth shape k is on.level))

-- ---- cuts

-- the keys of a set that are cut, counted
count_is : (test : Key → Bool) (owner : Key → ℕ) (ks : List Key) → length (filter (λ k. test k && is_cut owner k) ks) ≡ total_of (cut owner) test ks
count_is test owner [] = refl
count_is test owner (k ∷ ks) = go (test k) (is_cut owner k) (count_is test owner ks) ∙ sym (total_cons (cut owner) test k ks)
  where
    go : (b c : Bool) → length (filter (λ j. test j && is_cut owner j) ks) ≡ total_of (cut owner) test ks
        → length (cond (b && c) (k ∷ filter (λ j. test j && is_cut owner j) ks) (filter (λ j. test j && is_cut owner j) ks)) ≡ cond b (cond c 1 0) 0 + total_of (cut owner) test ks
    go true true rest = omega (arith, rest)
    go true false rest = rest ∙ sym (zero-add (total_of (cut owner) test ks))
    go false c rest = rest ∙ sym (zero-add (total_of (cut owner) test ks))

-- down to a level, the cut keys are below those above it that have children
cuts_down : (owner : Key → ℕ) (depth level : ℕ) (shape : Key → Bool) → IsShape depth shape
    → total_of (cut owner) shape (keys_above (level + 1)) ≡ total_of (cuts_below owner) (is_interior shape) (keys_above level)
cuts_down owner depth zero shape is = rw is.root refl
cuts_down owner depth (suc level) shape is =
    let above = cuts_down owner depth level shape is in
    let next = next_level (cut owner) depth shape level is in
    let whole = one_more_level (cut owner) shape (level + 1) in
    let part = one_more_level (cuts_below owner) (is_interior shape) level in
    subst (λ n. total_of (cut owner) shape (keys_above (n + 1)) ≡ total_of (cuts_below owner) (is_interior shape) (keys_above n)) (add-one level) (omega (arith, above, next, whole, part))

pub cuts_below_interior : CutsBelowInterior
cuts_below_interior owner depth shape is =
    let down = cuts_down owner depth depth shape is in
    let last = last_level (cuts_below owner) depth shape is in
    let all = one_more_level (cuts_below owner) (is_interior shape) depth in
    count_is shape owner (keys depth) ∙ omega (arith, down, last, all)

-- ---- the ways up

even_half : (n : ℕ) → ((2 * n + 0) % 2 == 0 ≡ true) × ((2 * n + 0) / 2 ≡ n)
even_half n = (eq-eqb _ 0 (omega arith), omega arith)

odd_half : (n : ℕ) → (2 * n + 1) % 2 == 0 ≡ false
odd_half n = ne_eqb _ 0 (λ e. omega arith)

-- from a left child the way goes on, from a right child it doesn't
up_left : (owner : Key → ℕ) (k : Key) → cuts_up owner (child k false) ≡ cut owner (child k false) + cuts_up owner k
up_left owner k =
    let half = even_half k.at in
    ap (λ n. cuts_from owner n (2 * k.at + 0)) (add-one k.level)
    ∙ ap₂ (λ b at. cut owner (record { level = suc k.level; at = 2 * k.at + 0 }) + cond b (cuts_from owner k.level at) 0) half.0 half.1
    ∙ ap (λ n. cut owner (record { level = n; at = 2 * k.at + 0 }) + cuts_up owner k) (sym (add-one k.level))

up_right : (owner : Key → ℕ) (k : Key) → cuts_up owner (child k true) ≡ cut owner (child k true)
up_right owner k =
    ap (λ n. cuts_from owner n (2 * k.at + 1)) (add-one k.level)
    ∙ ap (λ b. cut owner (record { level = suc k.level; at = 2 * k.at + 1 }) + cond b (cuts_from owner k.level ((2 * k.at + 1) / 2)) 0) (odd_half k.at)
    ∙ ap (λ n. cut owner (record { level = n; at = 2 * k.at + 1 }) + 0) (sym (add-one k.level)) ∙ add-zero _

up_children : (owner : Key → ℕ) (k : Key) → of_children (cuts_up owner) k ≡ cuts_below owner k + cuts_up owner k
up_children owner k =
    let left = up_left owner k in
    let right = up_right owner k in
    omega (arith, left, right)

-- on a level the ways up are those of the level above, from its keys with children, and the cuts below these
ways_next : (owner : Key → ℕ) (depth level : ℕ) (shape : Key → Bool) → IsShape depth shape
    → total_of (cuts_up owner) shape (keys_on (level + 1)) ≡ total_of (cuts_below owner) (is_interior shape) (keys_on level) + total_of (cuts_up owner) (is_interior shape) (keys_on level)
ways_next owner depth level shape is =
    next_level (cuts_up owner) depth shape level is
    ∙ total_agree (of_children (cuts_up owner)) (λ k. cuts_below owner k + cuts_up owner k) (is_interior shape) (keys_on level) (all_keys_on (λ k. of_children (cuts_up owner) k ≡ cuts_below owner k + cuts_up owner k) level (λ k on. up_children owner k))
    ∙ total_plus (cuts_below owner) (cuts_up owner) (is_interior shape) (keys_on level)

-- down to a level: the ways up from the leaves above it, and from all its keys
ways_down : (owner : Key → ℕ) (depth level : ℕ) (shape : Key → Bool) → IsShape depth shape
    → total_of (cut owner) shape (keys_above (level + 1)) ≡ total_of (cuts_up owner) (is_leaf shape) (keys_above level) + total_of (cuts_up owner) shape (keys_on level)
ways_down owner depth zero shape is = rw is.root refl
ways_down owner depth (suc level) shape is =
    let above = ways_down owner depth level shape is in
    let parts = total_parts (cuts_up owner) shape (keys_on level) in
    let next = ways_next owner depth level shape is in
    let cuts = next_level (cut owner) depth shape level is in
    let whole = one_more_level (cut owner) shape (level + 1) in
    let leaves = one_more_level (cuts_up owner) (is_leaf shape) level in
    subst (λ n. total_of (cut owner) shape (keys_above (n + 1)) ≡ total_of (cuts_up owner) (is_leaf shape) (keys_above n) + total_of (cuts_up owner) shape (keys_on n)) (add-one level)
    (omega (arith, above, parts, next, cuts, whole, leaves))

pub cuts_above_leaves : CutsAboveLeaves
cuts_above_leaves owner depth shape is =
    let down = ways_down owner depth depth shape is in
    let parts = total_parts (cuts_up owner) shape (keys_on depth) in
    let last = last_level (cuts_up owner) depth shape is in
    let all = one_more_level (cuts_up owner) (is_leaf shape) depth in
    count_is shape owner (keys depth) ∙ omega (arith, down, parts, last, all)

-- ---- all keys

abbrev one : Key → ℕ
one k = 1

length_is : (test : Key → Bool) (ks : List Key) → length (filter test ks) ≡ total_of one test ks
length_is test [] = refl
length_is test (k ∷ ks) = go (test k) (length_is test ks) ∙ sym (total_cons one test k ks)
  where
    go : (b : Bool) → length (filter test ks) ≡ total_of one test ks → length (cond b (k ∷ filter test ks) (filter test ks)) ≡ cond b 1 0 + total_of one test ks
    go true rest = omega (arith, rest)
    go false rest = rest ∙ sym (zero-add (total_of one test ks))

-- down to a level, the keys are the root and the children of those above it that have children
shape_down : (depth level : ℕ) (shape : Key → Bool) → IsShape depth shape → total_of one shape (keys_above (level + 1)) ≡ total_of (of_children one) (is_interior shape) (keys_above level) + 1
shape_down depth zero shape is = rw is.root refl
shape_down depth (suc level) shape is =
    let above = shape_down depth level shape is in
    let next = next_level one depth shape level is in
    let whole = one_more_level one shape (level + 1) in
    let part = one_more_level (of_children one) (is_interior shape) level in
    subst (λ n. total_of one shape (keys_above (n + 1)) ≡ total_of (of_children one) (is_interior shape) (keys_above n) + 1) (add-one level) (omega (arith, above, next, whole, part))

pub keys_of_shapes : KeysOfShapes
keys_of_shapes depth shape is =
    let down = shape_down depth depth shape is in
    let last = last_level (of_children one) depth shape is in
    let all = one_more_level (of_children one) (is_interior shape) depth in
    let twice = total_plus one one (is_interior shape) (keys depth) in
    let inner = length_is (is_interior shape) (keys depth) in
    length_is shape (keys depth) ∙ omega (arith, down, last, all, twice, inner)

-- ---- two shapes

and_true : (a b : Bool) → (a && b) ≡ true → (a ≡ true) × (b ≡ true)
and_true true b e = (refl, e)
and_true false b e = absurd (true≢false (sym e))

pub intersection_shape : IntersectionIsShape
intersection_shape depth shape other f g = record {
  keys = λ k in_both. f.keys k (and_true (shape k) (other k) in_both).0;
  root = rw (f.root, g.root) refl;
  parents = λ k right in_both.
      let parts = and_true (shape (child k right)) (other (child k right)) in_both in
      ap₂ (λ a b. a && b) (f.parents k right parts.0) (g.parents k right parts.1);
  children = λ k. ap₂ (λ a b. a && b) (f.children k) (g.children k);
}

both_tests : (a b c d : Bool) → ((a && b) && (c && d)) ≡ cond (a && c) (b && d) false
both_tests true b true d = refl
both_tests true true false d = refl
both_tests true false false d = refl
both_tests false b c d = refl

pub common_interior : CommonInterior
common_interior depth shape other =
    agree (keys depth) ∙ sym (filter_filter (is_interior other) (is_interior shape) (keys depth))
  where
    agree : (ks : List Key) → filter (is_interior (intersection shape other)) ks ≡ filter (λ k. cond (is_interior shape k) (is_interior other k) false) ks
    agree [] = refl
    agree (k ∷ ks) = ap₂ (λ b rest. cond b (k ∷ rest) rest) (both_tests (shape k) (other k) (shape (child k false)) (other (child k false))) (agree ks)

-- ---- what coarsening erases

-- the keys of a set without those of a part of it
without_part : (inside part test : Key → Bool) (ks : List Key) → ((k : Key) → part k ≡ true → inside k ≡ true)
    → length (filter (λ k. (inside k && not (part k)) && test k) ks) + length (filter (λ k. part k && test k) ks) ≡ length (filter (λ k. inside k && test k) ks)
without_part inside part test [] within = refl
without_part inside part test (k ∷ ks) within = go (inside k) (part k) (test k) (within k) (without_part inside part test ks within)
  where
    gone : List Key
    gone = filter (λ j. (inside j && not (part j)) && test j) ks

    stay : List Key
    stay = filter (λ j. part j && test j) ks

    whole : List Key
    whole = filter (λ j. inside j && test j) ks

    go : (a b c : Bool) → (b ≡ true → a ≡ true) → length gone + length stay ≡ length whole
        → length (cond ((a && not b) && c) (k ∷ gone) gone) + length (cond (b && c) (k ∷ stay) stay) ≡ length (cond (a && c) (k ∷ whole) whole)
    go true true true up rest = omega (arith, rest)
    go true true false up rest = rest
    go true false true up rest = omega (arith, rest)
    go true false false up rest = rest
    go false true c up rest = absurd (true≢false (sym (up refl)))
    go false false c up rest = rest

stays_within : (t : Tree) → IsTree t → (k : Key) → (coarsened t).shape k ≡ true → t.shape k ≡ true
stays_within t tree k stays = coarsened_least t t k tree refl refl stays

no_test : (test : Key → Bool) (ks : List Key) → filter (λ k. test k && true) ks ≡ filter test ks
no_test test [] = refl
no_test test (k ∷ ks) = ap₂ (λ b rest. cond b (k ∷ rest) rest) (go (test k)) (no_test test ks)
  where
    go : (b : Bool) → (b && true) ≡ b
    go true = refl
    go false = refl

pub erased_keys : ErasedKeys
erased_keys t tree =
    let ks = keys t.depth in
    let new = (coarsened t).shape in
    let parts = without_part t.shape new (λ k. true) ks (stays_within t tree) in
    let gone = ap length (no_test (λ k. t.shape k && not (new k)) ks) in
    let stay = ap length (no_test new ks) in
    let whole = ap length (no_test t.shape ks) in
    omega (arith, parts, gone, stay, whole)

pub erased_cuts : ErasedCuts
erased_cuts owner t tree = without_part t.shape (coarsened t).shape (is_cut owner) (keys t.depth) (stays_within t tree)
