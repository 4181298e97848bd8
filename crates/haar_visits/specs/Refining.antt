-- Units of `refine`.
use Rattle.std.specs.Prelude.{ℕ, true, nat_le, if◌then◌else◌, Option, Some, None, ℤ}
use Rattle.tree_key.specs.Keys.{Key}
use Rattle.haar_node.specs.declared.Node.{Node}
use Rattle.haar_node.specs.declared.Node.TheVariants as node
use Rattle.haar_base.specs.declared.unit.Side.{Side}
use Rattle.haar_base.specs.declared.value.Value.TheVariants.{Done}
use Rattle.haar_base.specs.declared.decisions.Visit.{Visit}
use Rattle.haar_base.specs.declared.decisions.Visit.TheVariants as visit
use Rattle.haar_base.specs.declared.readings.Leaf.{Leaf}
use Rattle.haar_base.specs.declared.readings.Leaf.TheVariants.{Whole, Cut, Wrong}
use Rattle.haar_base.specs.declared.readings.ChildSides.{ChildSides}
use Rattle.haar_base.specs.Readings.{leaf_at, leaf_sides, one, nothing_held}
use Rattle.haar_base.specs.Decisions.{bad_visit}

-- a key that has children, which are to be visited with these sides
abbrev pub split_one : Option ChildSides → Visit
split_one None = bad_visit true
split_one (Some below) = visit.Split (Some node.Branch) (one below.left) (one below.right) nothing_held

abbrev pub refine_cut : ℕ → Key → Leaf → Visit
refine_cut depth key leaf = if nat_le depth key.level then bad_visit true else split_one (leaf_sides leaf)

abbrev pub refine_leaf : ℕ → ℕ → Key → Leaf → Visit
refine_leaf depth level key (Whole sum) = if nat_le level key.level then visit.Give (Some (node.Leaf sum)) Done else refine_cut depth key (Whole sum)
refine_leaf depth level key Cut = refine_cut depth key Cut
refine_leaf depth level key Wrong = refine_cut depth key Wrong

-- where a key has children, or is above the level, so are they; else it becomes a leaf
abbrev pub visit_refined : ℕ → ℕ → Key → Side → Option Node → Visit
visit_refined depth level key side cell = refine_leaf depth level key (leaf_at side cell)
