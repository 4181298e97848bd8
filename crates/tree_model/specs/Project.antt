-- The tree that `project` makes of a function: its shape is as fine as the level and the tolerance ask, and on each leaf
-- it has the function's value at the leaf's first cell.
use Rattle.std.specs.Prelude.{ℕ, ◌+◌, ◌^◌, Bool, false, true, ◌&&◌, ◌||◌, nat_lt, ℤ, ◌-ℤ◌, List, map}
use Rattle.std.specs.Int.RustNames.{unsigned_abs}
use Rattle.std.specs.List.{list_all, position_or_len, range_with_len}
use Rattle.tree_key.specs.Keys.{Key, child, ancestor, first_cell, key_over}
use Rattle.tree_model.specs.Functions.{Function, value_at}
use Rattle.tree_model.specs.Shapes.{is_key_of, is_leaf}
use Rattle.tree_model.specs.Trees.{Tree}

-- the function, the level down to which all is split, and the largest difference that is left unsplit
pub record Projection : Type 0 where
  pub function : Function
  pub level : ℕ
  pub tolerance : ℕ

-- whether the values at the first cells of the two halves differ by more than the tolerance
abbrev pub differs : ℕ → Projection → Key → Bool
differs depth p k =
    nat_lt p.tolerance (unsigned_abs (value_at p.function (first_cell depth (child k false)) -ℤ value_at p.function (first_cell depth (child k true))))

-- whether a key is split: only above the deepest level, and there above the level asked for or where the halves differ
abbrev pub is_split : ℕ → Projection → Key → Bool
is_split depth p k = nat_lt k.level depth && (nat_lt k.level p.level || differs depth p k)

-- the keys of which each properly containing key is split
abbrev pub projected_shape : ℕ → Projection → Key → Bool
projected_shape depth p k = is_key_of depth k && list_all (λ level. is_split depth p (ancestor k level)) (range_with_len 0 k.level)

-- the leaf of a shape whose box has the cell
abbrev pub leaf_over : ℕ → (Key → Bool) → ℕ → Key
leaf_over depth shape cell =
    key_over depth (position_or_len (λ level. is_leaf shape (key_over depth level cell)) (range_with_len 0 (depth + 1))) cell

abbrev pub projected_cells : ℕ → Projection → List ℤ
projected_cells depth p =
    map (λ cell. value_at p.function (first_cell depth (leaf_over depth (projected_shape depth p) cell))) (range_with_len 0 (2 ^ depth))

abbrev pub projected : ℕ → Projection → Tree
projected depth p = record { depth = depth; cells = projected_cells depth p; shape = projected_shape depth p }
