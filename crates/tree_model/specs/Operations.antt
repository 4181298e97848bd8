-- What the commands make of the trees that they read: a list of values and a shape each.
use Rattle.std.specs.Prelude.{ℕ, Bool, true, not, ◌&&◌, ◌||◌, nat_le, map, ℤ, ◌+ℤ◌, ◌*ℤ◌}
use Rattle.std.specs.List.{list_any, zip}
use Rattle.std.specs.Option.{option_map_or}
use Rattle.tree_key.specs.Keys.{Key, parent}
use Rattle.tree_model.specs.Functions.{is_value}
use Rattle.tree_model.specs.Shapes.{is_key_of}
use Rattle.tree_model.specs.Trees.{Tree, is_constant}
use Rattle.tree_model.specs.Products.{products}

-- the same values, with all keys down to a level
abbrev pub refined : ℕ → Tree → Tree
refined level t = record t { shape = λ k. t.shape k || (is_key_of t.depth k && nat_le k.level level) }

-- the same values, on the keys that are the root, or on whose parent's box the values aren't all the same
abbrev pub coarsened : Tree → Tree
coarsened t = record t { shape = λ k. is_key_of t.depth k && option_map_or (λ p. not (is_constant t p)) (parent k) true }

-- the keys of either shape
abbrev pub union : (Key → Bool) → (Key → Bool) → Key → Bool
union shape other k = shape k || other k

-- cell by cell a·f + b·g, on the keys of both
abbrev pub weighted_sum : ℤ → Tree → ℤ → Tree → Tree
weighted_sum a f b g = record {
  depth = f.depth;
  cells = map (λ p. a *ℤ p.0 +ℤ b *ℤ p.1) (zip f.cells g.cells);
  shape = union f.shape g.shape;
}

-- cell by cell f·g, on the keys of both
abbrev pub product : Tree → Tree → Tree
product f g = record { depth = f.depth; cells = products f.cells g.cells; shape = union f.shape g.shape }

-- a value is above what a cell may have
abbrev pub overflows : Tree → Bool
overflows t = list_any (λ z. not (is_value z)) t.cells
