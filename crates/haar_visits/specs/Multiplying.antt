-- Units of `mul`.
use Rattle.std.specs.Prelude.{ℕ, ◌*◌, Bool, true, ◌&&◌, nat_le, nat_lt, if◌then◌else◌, Option, Some, None, ℤ, pos, ◌*ℤ◌}
use Rattle.std.specs.Int.RustNames.{unsigned_abs}
use Rattle.tree_key.specs.Keys.{Key, width}
use Rattle.tree_model.specs.Functions.{max_value}
use Rattle.haar_node.specs.Combinations.{leaf_value}
use Rattle.haar_node.specs.declared.Node.{Node}
use Rattle.haar_node.specs.declared.Node.TheVariants as node
use Rattle.haar_base.specs.declared.unit.Sides.{Sides}
use Rattle.haar_base.specs.declared.value.Value.TheVariants.{Done}
use Rattle.haar_base.specs.declared.decisions.Visit.{Visit}
use Rattle.haar_base.specs.declared.decisions.Visit.TheVariants as visit
use Rattle.haar_base.specs.declared.readings.Leaf.{Leaf}
use Rattle.haar_base.specs.declared.readings.Leaf.TheVariants.{Whole, Cut, Wrong}
use Rattle.haar_base.specs.Numbers.{divides}
use Rattle.haar_base.specs.Readings.{leaf_at, leaf_sides}
use Rattle.haar_base.specs.Decisions.{bad_visit}
use Rattle.haar_visits.specs.Adding.{split_two}

-- whether this may be the sum over so many cells that all have one value
abbrev pub is_leaf_sum : ℤ → ℕ → Bool
is_leaf_sum sum cells = divides cells sum && nat_le (unsigned_abs sum) (cells * max_value)

-- the value of the product on a leaf
abbrev pub product_value : ℤ → ℤ → ℕ → ℤ
product_value left right cells = leaf_value left cells *ℤ leaf_value right cells

-- the sum over a leaf of the product, where its value isn't too large
abbrev pub leaf_product : ℤ → ℤ → ℕ → Option ℤ
leaf_product left right cells = if nat_le (unsigned_abs (product_value left right cells)) max_value then Some (pos cells *ℤ product_value left right cells) else None

-- and where both are sums of one value each
abbrev pub product_sum : ℤ → ℤ → ℕ → Option ℤ
product_sum left right cells = if is_leaf_sum left cells then (if is_leaf_sum right cells then leaf_product left right cells else None) else None

abbrev pub multiply_leaf : Option ℤ → Visit
multiply_leaf None = bad_visit true
multiply_leaf (Some sum) = visit.Give (Some (node.Leaf sum)) Done

abbrev pub multiply_cut : ℕ → Key → Leaf → Leaf → Visit
multiply_cut depth key first second = if nat_lt key.level depth then split_two node.Branch (leaf_sides first) (leaf_sides second) else bad_visit true

abbrev pub multiply_leaves : ℕ → Key → Leaf → Leaf → Visit
multiply_leaves depth key (Whole left) (Whole right) = multiply_leaf (product_sum left right (width depth key))
multiply_leaves depth key (Whole left) Cut = multiply_cut depth key (Whole left) Cut
multiply_leaves depth key (Whole left) Wrong = multiply_cut depth key (Whole left) Wrong
multiply_leaves depth key Cut second = multiply_cut depth key Cut second
multiply_leaves depth key Wrong second = multiply_cut depth key Wrong second

-- a key has children where it has some in one of the trees
abbrev pub visit_multiplied : ℕ → Key → Sides → Option Node → Option Node → Visit
visit_multiplied depth key sides first second = multiply_leaves depth key (leaf_at sides.first first) (leaf_at sides.second second)
