-- Units of `compress`.
use Rattle.std.specs.Prelude.{ℕ, ◌^◌, Bool, true, false, ◌&&◌, ◌==◌, nat_le, if◌then◌else◌, Option, Some, None, ℤ, pos, ◌+ℤ◌, ◌-ℤ◌}
use Rattle.std.specs.Int.RustNames.{unsigned_abs}
use Rattle.tree_key.specs.Keys.{Key}
use Rattle.haar_node.specs.declared.Node.{Node}
use Rattle.haar_node.specs.declared.Node.TheVariants as node
use Rattle.haar_base.specs.declared.unit.Side.{Side}
use Rattle.haar_base.specs.declared.value.Value.{Value}
use Rattle.haar_base.specs.declared.value.Value.TheVariants.{Done, Sum, Product, Lines, Count, Bad}
use Rattle.haar_base.specs.declared.decisions.Visit.{Visit}
use Rattle.haar_base.specs.declared.decisions.Visit.TheVariants as visit
use Rattle.haar_base.specs.declared.decisions.Combination.{Combination}
use Rattle.haar_base.specs.declared.decisions.Combination.TheVariants as combination
use Rattle.haar_base.specs.declared.readings.Leaf.{Leaf}
use Rattle.haar_base.specs.declared.readings.Leaf.TheVariants.{Whole, Cut, Wrong}
use Rattle.haar_base.specs.declared.readings.Sums.{Sums}
use Rattle.haar_base.specs.Readings.{leaf_at, sums}
use Rattle.haar_base.specs.Decisions.{bad_visit, bad_combination}
use Rattle.haar_visits.specs.Coarsening.{split_entries}

abbrev pub below_node : Option ℤ → Node
below_node None = node.Bare
below_node (Some difference) = node.Inner difference

-- the node of a compressed tree with these numbers
abbrev pub compressed_node : Key → Sums → Node
compressed_node key s = if key.level == 0 then node.Root s.sum s.difference else below_node s.difference

abbrev pub compress_leaf : ℕ → Key → Leaf → Visit
compress_leaf depth key (Whole sum) = visit.Give (Some (compressed_node key (sums sum None))) (Sum sum)
compress_leaf depth key Cut = split_entries depth key
compress_leaf depth key Wrong = bad_visit true

-- a leaf has no difference
abbrev pub visit_compressed : ℕ → Key → Side → Option Node → Visit
visit_compressed depth key side cell = compress_leaf depth key (leaf_at side cell)

-- the difference of the halves, and their sum, where they aren't too large
abbrev pub joined : Key → ℤ → ℤ → Combination
joined key left right =
    if nat_le (unsigned_abs left) (2 ^ 40) && nat_le (unsigned_abs right) (2 ^ 40)
    then combination.Give (Some (compressed_node key (sums (left +ℤ right) (Some (left -ℤ right))))) (Sum (left +ℤ right))
    else bad_combination true

abbrev pub combine_right : Key → ℤ → Value → Combination
combine_right key left (Sum right) = joined key left right
combine_right key left Done = bad_combination true
combine_right key left (Product product) = bad_combination true
combine_right key left (Lines rows) = bad_combination true
combine_right key left (Count count) = bad_combination true
combine_right key left Bad = bad_combination true

abbrev pub combine_compressed : Key → Value → Value → Combination
combine_compressed key (Sum left) right = combine_right key left right
combine_compressed key Done right = bad_combination true
combine_compressed key (Product product) right = bad_combination true
combine_compressed key (Lines rows) right = bad_combination true
combine_compressed key (Count count) right = bad_combination true
combine_compressed key Bad right = bad_combination true
