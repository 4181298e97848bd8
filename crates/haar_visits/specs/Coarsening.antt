-- Units of `coarsen`.
use Rattle.std.specs.Prelude.{ℕ, ◌^◌, Bool, true, false, ◌&&◌, ◌==◌, nat_le, nat_lt, if◌then◌else◌, Option, Some, None, ℤ, pos, ◌+ℤ◌, ◌-ℤ◌}
use Rattle.std.specs.Int.RustNames.{unsigned_abs}
use Rattle.tree_key.specs.Keys.{Key}
use Rattle.haar_node.specs.declared.Node.{Node}
use Rattle.haar_node.specs.declared.Node.TheVariants as node
use Rattle.haar_base.specs.declared.unit.Side.{Side}
use Rattle.haar_base.specs.declared.value.Value.{Value}
use Rattle.haar_base.specs.declared.value.Value.TheVariants.{Done, Sum, Product, Lines, Count, Bad}
use Rattle.haar_base.specs.declared.decisions.Visit.{Visit}
use Rattle.haar_base.specs.declared.decisions.Visit.TheVariants as visit
use Rattle.haar_base.specs.declared.decisions.Combination.{Combination}
use Rattle.haar_base.specs.declared.decisions.Combination.TheVariants as combination
use Rattle.haar_base.specs.declared.readings.Leaf.{Leaf}
use Rattle.haar_base.specs.declared.readings.Leaf.TheVariants.{Whole, Cut, Wrong}
use Rattle.haar_base.specs.Readings.{leaf_at, one, entry, nothing_held}
use Rattle.haar_base.specs.Decisions.{bad_visit, bad_combination}

-- both children are visited, where there may be some
abbrev pub split_entries : ℕ → Key → Visit
split_entries depth key = if nat_lt key.level depth then visit.Split None (one entry) (one entry) nothing_held else bad_visit true

abbrev pub coarsen_leaf : ℕ → Key → Leaf → Visit
coarsen_leaf depth key (Whole sum) = visit.Give (Some (node.Leaf sum)) (Sum sum)
coarsen_leaf depth key Cut = split_entries depth key
coarsen_leaf depth key Wrong = bad_visit true

-- a leaf stays one for now
abbrev pub visit_coarsened : ℕ → Key → Side → Option Node → Visit
visit_coarsened depth key side cell = coarsen_leaf depth key (leaf_at side cell)

-- the sum over a box both of whose halves have this sum, where it isn't too large
abbrev pub merged : ℤ → Combination
merged half = if nat_le (unsigned_abs half) (2 ^ 40) then combination.Merge (half +ℤ half) else bad_combination true

-- whether two numbers are one
abbrev pub same : ℤ → ℤ → Bool
same a b = unsigned_abs (a -ℤ b) == 0

abbrev pub branch : Combination
branch = combination.Give (Some node.Branch) Done

-- beside a half that is one leaf with this sum
abbrev pub combine_beside : ℤ → Value → Combination
combine_beside half (Sum other) = if same half other then merged half else branch
combine_beside half Done = branch
combine_beside half (Product product) = bad_combination true
combine_beside half (Lines rows) = bad_combination true
combine_beside half (Count count) = bad_combination true
combine_beside half Bad = bad_combination true

-- beside a half that isn't one leaf
abbrev pub combine_apart : Value → Combination
combine_apart (Sum other) = branch
combine_apart Done = branch
combine_apart (Product product) = bad_combination true
combine_apart (Lines rows) = bad_combination true
combine_apart (Count count) = bad_combination true
combine_apart Bad = bad_combination true

-- two leaves with one value become a leaf
abbrev pub combine_coarsened : Value → Value → Combination
combine_coarsened (Sum half) right = combine_beside half right
combine_coarsened Done right = combine_apart right
combine_coarsened (Product product) right = bad_combination true
combine_coarsened (Lines rows) right = bad_combination true
combine_coarsened (Count count) right = bad_combination true
combine_coarsened Bad right = bad_combination true
