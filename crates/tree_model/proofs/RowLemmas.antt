-- The keys of a projected shape, level by level: each row follows from the one above it.
use Rattle.std.proofs.Common.{◌≡◌, ℕ, zero, suc, ◌+◌, ◌*◌, ◌^◌, ◌<◌, ◌≤◌, inl, inr, List, [], ◌∷◌, map, filter, Bool, true, false, not, ◌&&◌, cond, ltb, leb, refl, sym, ◌∙◌, ap, subst, arith, add-zero, add-one}
use Rattle.std.specs.List.{flat_map, range_with_len, list_all, AllByRecursion}
use Rattle.std.proofs.lemmas.Bool.{cases_lt, le-leb, lt-leb, lt-ltb, le-ltb, and_right}
use Rattle.std.proofs.lemmas.List.Folds.{flat_map-map}
use Rattle.tree_key.specs.Keys.{Key, child, ancestor}
use Rattle.tree_key.proofs.PowerLemmas.{twice}
use Rattle.tree_key.proofs.FamilyLemmas.{child_fits}
use Rattle.tree_model.specs.Shapes.{is_key_of, keys_on, is_leaf}
use Rattle.tree_model.specs.Project.{Projection, is_split, projected_shape}
use Rattle.tree_model.specs.Rows.{both, row, halves}
use Rattle.tree_model.proofs.RangeLemmas.{list_all_range_more}
use Rattle.tree_model.proofs.ListLemmas.{filter_flat_map, flat_map_filter, flat_map_agree, filter_filter, filter_agree}
use Rattle.tree_model.proofs.AncestorLemmas.{ancestor_child, ancestor_self}

pub list_all_range_agree : (p q : ℕ → Bool) (n : ℕ) → ((i : ℕ) → i < n → p i ≡ q i) → list_all p (range_with_len 0 n) ≡ list_all q (range_with_len 0 n)
list_all_range_agree p q zero agree = refl
list_all_range_agree p q (suc n) agree =
    let rest = list_all_range_agree p q n (λ i below. agree i (omega arith)) in
    let last = agree n (omega arith) in
    let more : list_all p (range_with_len 0 (n + 1)) ≡ list_all q (range_with_len 0 (n + 1)) = rw (list_all_range_more p n, list_all_range_more q n, rest, last) refl in
    subst (λ m. list_all p (range_with_len 0 m) ≡ list_all q (range_with_len 0 m)) (add-one n) more

pub all_range : (P : ℕ → Type 0) (from count : ℕ) → ((i : ℕ) → from ≤ i → i < from + count → P i) → AllByRecursion P (range_with_len from count)
all_range P from zero each = tt
all_range P from (suc count) each =
    (each from (omega arith) (omega arith), all_range P (from + 1) count (λ i low high. each i (omega arith) (omega arith)))

pub all_map : {X Y : Type 0} (P : Y → Type 0) (f : X → Y) (xs : List X) → AllByRecursion (λ x. P (f x)) xs → AllByRecursion P (map f xs)
all_map P f [] all = tt
all_map P f (x ∷ xs) all = (all.0, all_map P f xs all.1)

-- what the keys of a level have in common
pub record IsOn (n : ℕ) (k : Key) : Type 0 where
  pub level : k.level ≡ n
  pub at : k.at < 2 ^ n

pub all_keys_on : (P : Key → Type 0) (level : ℕ) → ((k : Key) → IsOn level k → P k) → AllByRecursion P (keys_on level)
all_keys_on P level each =
    all_map P (λ at. let key : Key = record { level = level; at = at } in key) (range_with_len 0 (2 ^ level))
    (all_range _ 0 (2 ^ level) (λ at low high. each (record { level = level; at = at }) (record { level = refl; at = omega arith })))

-- the keys of the next level are the children
pairs_range : {X : Type 0} (f : ℕ → X) (from count : ℕ) → map f (range_with_len (2 * from) (2 * count)) ≡ flat_map (λ i. f (2 * i + 0) ∷ f (2 * i + 1) ∷ []) (range_with_len from count)
pairs_range f from zero = refl
pairs_range f from (suc count) =
    let two_more : 2 * suc count ≡ suc (suc (2 * count)) = omega arith in
    let next : 2 * from + 1 + 1 ≡ 2 * (from + 1) = omega arith in
    rw (two_more, add-zero, next) (ap (λ rest. f (2 * from) ∷ f (2 * from + 1) ∷ rest) (pairs_range f (from + 1) count))

pub keys_on_next : (level : ℕ) → keys_on (level + 1) ≡ flat_map both (keys_on level)
keys_on_next level =
    let double = twice level in
    rw double (pairs_range (λ at. let key : Key = record { level = level + 1; at = at } in key) 0 (2 ^ level) ∙ sym (flat_map-map both (λ at. let key : Key = record { level = level; at = at } in key) (range_with_len 0 (2 ^ level))))

-- the tests of a child's key and of its parent's, where both keys lie on their levels
tests_child : (level depth : ℕ) (below within above differ : Bool) → below ≡ true → within ≡ true → (leb (level + 1) depth && below && (above && (ltb level depth && differ))) ≡ (leb level depth && within && above && (ltb level depth && differ))
tests_child level depth below within above differ is_below is_within =
    elim (cases_lt level depth) [
      | inl lt ↦ rw (le-leb (level + 1) depth (omega arith), le-leb level depth (omega arith), lt-ltb level depth lt, is_below, is_within) refl
      | inr ge ↦ rw (lt-leb (level + 1) depth (omega arith), le-ltb level depth ge) (sym (and_right (leb level depth && within && above) false refl))
    ]

-- a child is in the shape where its parent is and is split
pub shape_child : (depth : ℕ) (p : Projection) (k : Key) (right : Bool) → k.at < 2 ^ k.level → projected_shape depth p (child k right) ≡ (projected_shape depth p k && is_split depth p k)
shape_child depth p k right fits =
    let above = list_all_range_agree (λ level. is_split depth p (ancestor (child k right) level)) (λ level. is_split depth p (ancestor k level)) k.level (λ level below. ap (is_split depth p) (ancestor_child k right level (omega arith))) in
    let here = (ap (is_split depth p) (ancestor_child k right k.level (omega arith) ∙ ancestor_self k)) in
    let all = (list_all_range_more (λ level. is_split depth p (ancestor (child k right) level)) k.level ∙ ap (λ b. b && is_split depth p (ancestor (child k right) k.level)) above ∙ ap (λ b. list_all (λ level. is_split depth p (ancestor k level)) (range_with_len 0 k.level) && b) here) in
    let room : 2 * k.at + cond right 1 0 < 2 ^ (k.level + 1) = child_fits k.level k.at right fits in
    ap (λ b. is_key_of depth (child k right) && b) all
    ∙ tests_child k.level depth (ltb (2 * k.at + cond right 1 0) (2 ^ (k.level + 1))) (ltb k.at (2 ^ k.level)) (list_all (λ level. is_split depth p (ancestor k level)) (range_with_len 0 k.level)) _ (lt-ltb _ _ room) (lt-ltb _ _ fits)

halves_kept : (keep : Key → Bool) (k : Key) (shape split : Bool) → keep (child k false) ≡ (shape && split) → keep (child k true) ≡ (shape && split) → cond shape (cond split (both k) []) [] ≡ filter keep (both k)
halves_kept keep k true true left right = rw (left, right) refl
halves_kept keep k true false left right = rw (left, right) refl
halves_kept keep k false split left right = rw (left, right) refl

-- the next row is the children of the keys that are split
pub row_next : (depth : ℕ) (p : Projection) (level : ℕ) → flat_map (halves depth p) (row depth p level) ≡ row depth p (level + 1)
row_next depth p level =
    let shape = projected_shape depth p in
    let agree = all_keys_on (λ k. cond (shape k) (halves depth p k) [] ≡ filter shape (both k)) level (λ k on.
    let fits : k.at < 2 ^ k.level = rw on.level on.at in
    halves_kept shape k (shape k) (is_split depth p k) (shape_child depth p k false fits) (shape_child depth p k true fits)) in
    flat_map_filter (halves depth p) shape (keys_on level)
    ∙ flat_map_agree _ _ (keys_on level) agree
    ∙ sym (filter_flat_map shape both (keys_on level))
    ∙ ap (filter shape) (sym (keys_on_next level))

leaf_test : (shape split child_shape : Bool) → child_shape ≡ (shape && split) → (shape && not child_shape) ≡ cond shape (not split) false
leaf_test true split child_shape is = rw is refl
leaf_test false split child_shape is = refl

-- the leaves of a level are the keys of its row that aren't split
pub leaves_row : (depth : ℕ) (p : Projection) (level : ℕ) → filter (is_leaf (projected_shape depth p)) (keys_on level) ≡ filter (λ k. not (is_split depth p k)) (row depth p level)
leaves_row depth p level =
    let shape = projected_shape depth p in
    let agree = all_keys_on (λ k. is_leaf shape k ≡ cond (shape k) (not (is_split depth p k)) false) level (λ k on.
    let fits : k.at < 2 ^ k.level = rw on.level on.at in
    leaf_test (shape k) (is_split depth p k) (shape (child k false)) (shape_child depth p k false fits)) in
    filter_agree _ _ (keys_on level) agree ∙ sym (filter_filter (λ k. not (is_split depth p k)) shape (keys_on level))
