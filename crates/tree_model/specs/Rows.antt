-- A projected shape level by level, as an evaluator walks it, and the leaves of a tree with their sums.
use Rattle.std.specs.Prelude.{ℕ, true, false, not, cond, List, [], ◌∷◌, filter, map, ℤ}
use Rattle.std.specs.List.{flat_map, range_with_len}
use Rattle.tree_key.specs.Keys.{Key, child}
use Rattle.tree_model.specs.Shapes.{keys_on, is_leaf}
use Rattle.tree_model.specs.Trees.{Tree, box_sum}
use Rattle.tree_model.specs.Project.{Projection, is_split, projected_shape}
use Rattle.tree_model.specs.Texts.{leaves}

-- the children of a key
abbrev pub both : Key → List Key
both k = child k false ∷ child k true ∷ []

-- the keys of the shape on a level
abbrev pub row : ℕ → Projection → ℕ → List Key
row depth p level = filter (projected_shape depth p) (keys_on level)

-- the children of a key that is split
abbrev pub halves : ℕ → Projection → Key → List Key
halves depth p k = cond (is_split depth p k) (both k) []

-- the keys that aren't split
abbrev pub whole_keys : ℕ → Projection → List Key → List Key
whole_keys depth p ks = filter (λ k. not (is_split depth p k)) ks

-- a key with the sum over its box
abbrev pub with_sum : Tree → Key → Key × ℤ
with_sum t k = (k, box_sum t k)

-- the leaves of a tree with their sums, in key order
abbrev pub leaf_sums : Tree → List (Key × ℤ)
leaf_sums t = map (with_sum t) (leaves t)

-- those of them above a level
abbrev pub leaf_sums_above : Tree → ℕ → List (Key × ℤ)
leaf_sums_above t level = flat_map (λ n. map (with_sum t) (filter (is_leaf t.shape) (keys_on n))) (range_with_len 0 level)
