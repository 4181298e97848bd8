-- Lemmas that crates above use: a projected tree is a tree, and its leaves follow from its rows.
use Rattle.std.proofs.Common.{◌≡◌, ℕ, zero, suc, ◌+◌, ◌-◌, ◌*◌, ◌^◌, ◌<◌, ◌≤◌, inl, inr, List, [], ◌∷◌, ◌++◌, map, filter, Bool, true, false, ◌&&◌, cond, ltb, leb, refl, sym, ◌∙◌, ap, arith, zero-add, add-zero, append-nil, Some}
use Rattle.std.specs.List.{flat_map, range_with_len, slice_get}
use Rattle.std.proofs.lemmas.Bool.{and_parts, and_left, ltb-true, le-leb, le-ltb, cases_lt}
use Rattle.std.proofs.lemmas.Grind.{flat_map-append}
use Rattle.std.proofs.lemmas.List.FromFn.{length-map-range_with_len}
use Rattle.tree_key.specs.Keys.{Key, root, child, first_cell, width}
use Rattle.tree_key.proofs.PowerLemmas.{twice}
use Rattle.tree_key.proofs.BoxLemmas.{first_in_box}
use Rattle.tree_key.proofs.FamilyLemmas.{half_fits}
use Rattle.tree_model.specs.Functions.{value_at}
use Rattle.tree_model.specs.Shapes.{IsShape, is_key_of, is_leaf, keys_on}
use Rattle.tree_model.specs.Trees.{IsTree}
use Rattle.tree_model.specs.Project.{Projection, is_split, projected_shape, projected, leaf_over}
use Rattle.tree_model.specs.Rows.{row, whole_keys, with_sum, leaf_sums, leaf_sums_above}
use Rattle.tree_model.specs.Laws.{RowsFollow, LeavesFollow}
use Rattle.tree_model.proofs.RangeLemmas.{range_more}
use Rattle.tree_model.proofs.ListLemmas.{filter_flat_map, map_flat_map}
use Rattle.tree_model.proofs.RowLemmas.{shape_child, row_next, leaves_row}
use Rattle.tree_model.proofs.LeafLemmas.{leaf_parts, leaf_values, box_within}
use Rattle.std.proofs.lemmas.Nat.{pow_pos}

root_is_in : (depth : ℕ) (p : Projection) → projected_shape depth p root ≡ true
root_is_in depth p = rw (le-leb 0 depth (omega arith)) refl

-- the parent of a child in the shape has a place of its level
key_fits : (depth : ℕ) (p : Projection) (k : Key) (right : Bool) → projected_shape depth p (child k right) ≡ true → k.at < 2 ^ k.level
key_fits depth p k right is =
    let tests = and_parts (is_key_of depth (child k right)) _ is in
    let key = and_parts (leb (k.level + 1) depth) (ltb (2 * k.at + cond right 1 0) (2 ^ (k.level + 1))) tests.0 in
    half_fits k.level k.at right (ltb-true _ _ key.1)

beyond : (depth : ℕ) (p : Projection) (k : Key) (right : Bool) → 2 ^ k.level ≤ k.at → projected_shape depth p (child k right) ≡ false
beyond depth p k right out =
    let none : ltb (2 * k.at + cond right 1 0) (2 ^ (k.level + 1)) ≡ false = le-ltb _ _ (omega (arith, twice k.level)) in
    let no_key : is_key_of depth (child k right) ≡ false = rw none (and_none (leb (k.level + 1) depth)) in
    and_left _ _ no_key
  where
    and_none : (b : Bool) → (b && false) ≡ false
    and_none true = refl
    and_none false = refl

pub shape_of_projected : (depth : ℕ) (p : Projection) → IsShape depth (projected_shape depth p)
shape_of_projected depth p = record {
  keys = λ k is. (and_parts (is_key_of depth k) _ is).0;
  root = root_is_in depth p;
  parents = λ k right is. (and_parts (projected_shape depth p k) (is_split depth p k) (sym (shape_child depth p k right (key_fits depth p k right is)) ∙ is)).0;
  children = λ k. elim (cases_lt k.at (2 ^ k.level)) [
    | inl fits ↦ shape_child depth p k true fits ∙ sym (shape_child depth p k false fits)
    | inr out ↦ beyond depth p k true out ∙ sym (beyond depth p k false out)
  ];
}

slice_get_map_range : {X : Type 0} (g : ℕ → X) (from count i : ℕ) → i < count → slice_get (map g (range_with_len from count)) i ≡ Some (g (from + i))
slice_get_map_range g from zero i below = absurd (omega arith)
slice_get_map_range g from (suc count) zero below = rw (add-zero from) refl
slice_get_map_range g from (suc count) (suc i) below =
    let next : from + suc i ≡ from + 1 + i = omega arith in
    rw next (slice_get_map_range g (from + 1) count i (omega arith))

pub projected_tree : (depth : ℕ) (p : Projection) → IsTree (projected depth p)
projected_tree depth p =
    let g : ℕ → _ = λ cell. value_at p.function (first_cell depth (leaf_over depth (projected_shape depth p) cell)) in
    record {
      cells = length-map-range_with_len g 0 (2 ^ depth);
      shape = shape_of_projected depth p;
      constant = λ leaf cell is inside. (
          let parts = leaf_parts depth p leaf is in
          let room = box_within depth leaf parts.level parts.at in
          let some : 0 < width depth leaf = pow_pos (depth - leaf.level) in
          let first = first_in_box depth leaf in
          slice_get_map_range g 0 (2 ^ depth) cell (omega (arith, inside.below, room))
          ∙ ap Some (ap g (zero-add cell) ∙ leaf_values depth p leaf is cell inside ∙ sym (leaf_values depth p leaf is (first_cell depth leaf) first) ∙ sym (ap g (zero-add (first_cell depth leaf))))
          ∙ sym (slice_get_map_range g 0 (2 ^ depth) (first_cell depth leaf) (omega (arith, some, room)))
          );
    }

first_row : (depth : ℕ) (p : Projection) → row depth p 0 ≡ root ∷ []
first_row depth p = ap (λ b. cond b (root ∷ []) []) (root_is_in depth p)

pub rows_follow_one_another : RowsFollow
rows_follow_one_another = record { first = first_row; next = row_next }

next_leaves : (depth : ℕ) (p : Projection) (level : ℕ) → leaf_sums_above (projected depth p) (level + 1) ≡ leaf_sums_above (projected depth p) level ++ map (with_sum (projected depth p)) (whole_keys depth p (row depth p level))
next_leaves depth p level =
    let t = projected depth p in
    let sums : ℕ → List (Key × _) = λ n. map (with_sum t) (filter (is_leaf t.shape) (keys_on n)) in
    ap (flat_map sums) (range_more 0 level)
    ∙ flat_map-append sums (range_with_len 0 level) ((0 + level) ∷ [])
    ∙ ap (λ last. flat_map sums (range_with_len 0 level) ++ last) (append-nil (sums (0 + level)) ∙ ap sums (zero-add level) ∙ ap (map (with_sum t)) (leaves_row depth p level))

all_leaves : (depth : ℕ) (p : Projection) → leaf_sums_above (projected depth p) (depth + 1) ≡ leaf_sums (projected depth p)
all_leaves depth p =
    let t = projected depth p in
    sym (map_flat_map (with_sum t) (λ n. filter (is_leaf t.shape) (keys_on n)) (range_with_len 0 (depth + 1)))
    ∙ ap (map (with_sum t)) (sym (filter_flat_map (is_leaf t.shape) keys_on (range_with_len 0 (depth + 1))))

pub leaves_follow_rows : LeavesFollow
leaves_follow_rows = record { first = λ depth p. refl; next = next_leaves; all = all_leaves }
