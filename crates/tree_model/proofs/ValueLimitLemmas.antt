-- Trees whose values are ones that a cell may have.
use Rattle.std.proofs.Common.{◌≡◌, ℕ, ◌+◌, ◌^◌, ◌<◌, ◌≤◌, get_or, inl, inr, Bool, true, false, not, ap, arith, ℤ}
use Rattle.std.specs.Int.RustNames.{unsigned_abs}
use Rattle.std.specs.List.{range_with_len}
use Rattle.std.proofs.lemmas.Bool.{le-leb, cases_lt, lt-leb, not_from_false, false_from_ne_true}
use Rattle.std.proofs.lemmas.List.Elements.{All-weaker, All-from_recursion, All-map}
use Rattle.std.proofs.lemmas.List.Folds.{list_any_none, list_any_at}
use Rattle.std.proofs.Math.Nat.{div-mul-le_self}
use Rattle.tree_key.specs.Keys.{Key, width, first_cell}
use Rattle.tree_model.specs.Functions.{value_at, is_value, max_value}
use Rattle.tree_model.specs.Operations.{overflows}
use Rattle.tree_model.specs.Project.{projected_shape, leaf_over}
use Rattle.tree_model.specs.Trees.{Tree, HasValues}
use Rattle.tree_model.specs.StoredTrees.{LeavesWithin, ValuesDontOverflow, ProjectionsHaveValues, RefinedHaveValues}
use Rattle.tree_model.proofs.FunctionLemmas.{value_within}
use Rattle.tree_model.proofs.LeafSumLemmas.{leaf_overflows}
use Rattle.tree_model.proofs.RowLemmas.{all_range}

-- a value within the limit isn't above it
passes_not : (z : ℤ) → unsigned_abs z ≤ max_value → not (is_value z) ≡ false
passes_not z small = ap not (le-leb (unsigned_abs z) max_value small)

pub no_overflow : ValuesDontOverflow
no_overflow t values =
    list_any_none (λ z. not (is_value z)) t.cells (All-weaker (λ z. unsigned_abs z ≤ max_value) (λ z. not (is_value z) ≡ false) passes_not t.cells values)

-- where nothing is above the limit, each value is within it
values_from_none : (t : Tree) → overflows t ≡ false → HasValues t
values_from_none t none at default below = elim (cases_lt max_value (unsigned_abs (get_or t.cells at default))) [
  | inl much ↦
      let over : overflows t ≡ true = list_any_at (λ z. not (is_value z)) t.cells at default below (not_from_false (is_value (get_or t.cells at default)) (lt-leb _ _ much)) in
      absurd cc
  | inr small ↦ small
]

pub within_on_leaves : LeavesWithin
within_on_leaves t tree within =
    let none : overflows t ≡ false = false_from_ne_true (overflows t) (λ over. (
    let shown = leaf_overflows t tree over in
    let small = within shown.0 shown.1.leaf in
    let much = shown.1.over in
    omega arith
    )) in
    (values_from_none t none, none)

-- the first cell of the leaf over a cell isn't after it
first_not_behind : (depth : ℕ) (shape : Key → Bool) (cell : ℕ) → first_cell depth (leaf_over depth shape cell) ≤ cell
first_not_behind depth shape cell = div-mul-le_self cell (width depth (leaf_over depth shape cell))

pub projected_values : ProjectionsHaveValues
projected_values depth p fit =
    let value : ℕ → ℤ = λ cell. value_at p.function (first_cell depth (leaf_over depth (projected_shape depth p) cell)) in
    let small : (cell : ℕ) → 0 ≤ cell → cell < 0 + 2 ^ depth → unsigned_abs (value cell) ≤ max_value = λ cell low high. (
    let first = first_not_behind depth (projected_shape depth p) cell in
    value_within depth p.function (first_cell depth (leaf_over depth (projected_shape depth p) cell)) fit (omega arith)
    ) in
    let cells = range_with_len 0 (2 ^ depth) in
    All-map (λ z. unsigned_abs z ≤ max_value) value cells
    (All-from_recursion (λ cell. unsigned_abs (value cell) ≤ max_value) cells (all_range (λ cell. unsigned_abs (value cell) ≤ max_value) 0 (2 ^ depth) small))

pub refined_values : RefinedHaveValues
refined_values level t values = values
