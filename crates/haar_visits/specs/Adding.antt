-- Units of `add`.
use Rattle.std.specs.Prelude.{◌≤◌, ℕ, ◌*◌, ◌^◌, Bool, true, ◌&&◌, ◌==◌, nat_le, nat_lt, is_none, if◌then◌else◌, Option, Some, None, ℤ, pos, ◌+ℤ◌, ◌*ℤ◌}
use Rattle.std.specs.Int.RustNames.{unsigned_abs}
use Rattle.std.specs.Option.{unwrap_or}
use Rattle.tree_key.specs.Keys.{Key, width}
use Rattle.tree_model.specs.Functions.{max_value}
use Rattle.haar_node.specs.declared.Node.{Node}
use Rattle.haar_node.specs.declared.Node.TheVariants as node
use Rattle.haar_base.specs.declared.unit.Sides.{Sides}
use Rattle.haar_base.specs.declared.value.Value.TheVariants.{Done}
use Rattle.haar_base.specs.declared.decisions.Visit.{Visit}
use Rattle.haar_base.specs.declared.decisions.Visit.TheVariants as visit
use Rattle.haar_base.specs.declared.readings.Sums.{Sums}
use Rattle.haar_base.specs.declared.readings.ChildSides.{ChildSides}
use Rattle.haar_visits.specs.declared.adding.Factors.{Factors}
use Rattle.haar_base.specs.Numbers.{coefficient}
use Rattle.haar_base.specs.Readings.{sums_at, sum_sides, sums, nothing_held}
use Rattle.haar_base.specs.Decisions.{bad_visit}
use Rattle.haar_visits.specs.Compressing.{compressed_node}

-- the factors are within their limit
pub record AreFactors (factors : Factors) : Type 0 where
  pub left : unsigned_abs factors.left ≤ 2 ^ 20
  pub right : unsigned_abs factors.right ≤ 2 ^ 20

-- what the sum has where the trees have these numbers
abbrev pub weighted : Factors → ℤ → ℤ → ℤ
weighted factors left right = factors.left *ℤ left +ℤ factors.right *ℤ right

-- a leaf of the sum, unless its values are too large
abbrev pub add_leaf : ℕ → Factors → Key → Sums → Sums → Visit
add_leaf depth factors key left right =
    if nat_le (unsigned_abs (weighted factors left.sum right.sum)) (width depth key * max_value)
    then visit.Give (Some (compressed_node key (sums (weighted factors left.sum right.sum) None))) Done
    else bad_visit true

-- the sum over the box of a key that has children, which is kept at the root alone
abbrev pub kept_sum : Factors → Key → Sums → Sums → Option ℤ
kept_sum factors key left right = if key.level == 0 then coefficient (weighted factors left.sum right.sum) else Some (pos 0)

abbrev pub add_difference : Factors → Sums → Sums → Option ℤ
add_difference factors left right = coefficient (weighted factors (unwrap_or left.difference (pos 0)) (unwrap_or right.difference (pos 0)))

-- the children's sides by those of both trees
abbrev pub left_sides : ChildSides → ChildSides → Sides
left_sides first second = record { first = first.left; second = second.left }

abbrev pub right_sides : ChildSides → ChildSides → Sides
right_sides first second = record { first = first.right; second = second.right }

-- a key that has children in both trees, or below a leaf of one, with this node
abbrev pub split_two : Node → Option ChildSides → Option ChildSides → Visit
split_two n None second = bad_visit true
split_two n (Some first) None = bad_visit true
split_two n (Some first) (Some second) = visit.Split (Some n) (left_sides first second) (right_sides first second) nothing_held

abbrev pub add_cut_by : Key → Option ℤ → Option ℤ → Option ChildSides → Option ChildSides → Visit
add_cut_by key None sum first second = bad_visit true
add_cut_by key (Some difference) None first second = bad_visit true
add_cut_by key (Some difference) (Some sum) first second = split_two (compressed_node key (sums sum (Some difference))) first second

-- a key of the sum that has children
abbrev pub add_cut : Factors → Key → Sums → Sums → Visit
add_cut factors key left right = add_cut_by key (add_difference factors left right) (kept_sum factors key left right) (sum_sides left) (sum_sides right)

abbrev pub add_both : ℕ → Factors → Key → Sums → Sums → Visit
add_both depth factors key left right =
    if is_none left.difference && is_none right.difference then add_leaf depth factors key left right
    else if nat_lt key.level depth then add_cut factors key left right
    else bad_visit true

abbrev pub add_sums : ℕ → Factors → Key → Option Sums → Option Sums → Visit
add_sums depth factors key None right = bad_visit true
add_sums depth factors key (Some left) None = bad_visit true
add_sums depth factors key (Some left) (Some right) = add_both depth factors key left right

-- a key has children where it has some in one of the trees
abbrev pub visit_added : ℕ → Factors → Key → Sides → Option Node → Option Node → Visit
visit_added depth factors key sides first second = add_sums depth factors key (sums_at (key.level == 0) sides.first first) (sums_at (key.level == 0) sides.second second)
