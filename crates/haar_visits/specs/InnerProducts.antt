-- Units of `inner`.
use Rattle.std.specs.Prelude.{ℕ, ◌^◌, Bool, true, false, ◌&&◌, ◌==◌, nat_le, nat_lt, if◌then◌else◌, Option, Some, None, ℤ, pos, ◌+ℤ◌, ◌*ℤ◌}
use Rattle.std.specs.Int.RustNames.{unsigned_abs, int_div}
use Rattle.tree_key.specs.Keys.{Key}
use Rattle.haar_node.specs.declared.Node.{Node}
use Rattle.haar_base.specs.declared.unit.Side.TheVariants.{Nothing}
use Rattle.haar_base.specs.declared.unit.Sides.{Sides}
use Rattle.haar_base.specs.declared.unit.Haar.{Haar}
use Rattle.haar_base.specs.declared.unit.Held.{Held}
use Rattle.haar_base.specs.declared.value.Value.{Value}
use Rattle.haar_base.specs.declared.value.Value.TheVariants.{Done, Sum, Product, Lines, Count, Bad}
use Rattle.haar_base.specs.declared.decisions.Visit.{Visit}
use Rattle.haar_base.specs.declared.decisions.Visit.TheVariants as visit
use Rattle.haar_base.specs.declared.decisions.Combination.{Combination}
use Rattle.haar_base.specs.declared.decisions.Combination.TheVariants as combination
use Rattle.haar_base.specs.declared.readings.Sums.{Sums}
use Rattle.haar_base.specs.Numbers.{divides}
use Rattle.haar_base.specs.Readings.{sums_at, entry}
use Rattle.haar_base.specs.Decisions.{bad_visit}

-- what the root gives: the product of the sums and what the differences add, over the number of cells
abbrev pub whole_product : ℕ → ℤ → ℤ → ℤ → Value
whole_product depth sum other part = if divides (2 ^ depth) (sum *ℤ other +ℤ part) then Product (int_div (sum *ℤ other +ℤ part) (pos (2 ^ depth))) else Bad

-- what a key gives, from what its differences and those below add
abbrev pub given_product : ℕ → Key → ℤ → ℤ → ℤ → Value
given_product depth key sum other part = if key.level == 0 then whole_product depth sum other part else Product part

abbrev pub haar : ℤ → ℤ → Haar
haar sum difference = record { sum = sum; difference = difference }

abbrev pub both_entries : Sides
both_entries = record { first = entry; second = entry }

abbrev pub inner_by : ℕ → Key → ℤ → Option ℤ → ℤ → Option ℤ → Visit
inner_by depth key sum None other second = visit.Give None (given_product depth key sum other (pos 0))
inner_by depth key sum (Some first) other None = visit.Give None (given_product depth key sum other (pos 0))
inner_by depth key sum (Some first) other (Some second) =
    if nat_lt key.level depth
    then visit.Split None both_entries both_entries (record { first = haar sum first; second = haar other second })
    else bad_visit false

abbrev pub inner_sums : ℕ → Key → Option Sums → Option Sums → Visit
inner_sums depth key None right = bad_visit false
inner_sums depth key (Some left) None = bad_visit false
inner_sums depth key (Some left) (Some right) = inner_by depth key left.sum left.difference right.sum right.difference

-- a key adds nothing unless it has children in both trees
abbrev pub visit_inner : ℕ → Key → Sides → Option Node → Option Node → Visit
visit_inner depth key sides first second = inner_sums depth key (sums_at (key.level == 0) sides.first first) (sums_at (key.level == 0) sides.second second)

-- the product of the differences, and twice what the children add
abbrev pub part_of : Held → ℤ → ℤ → ℤ
part_of held left right = held.first.difference *ℤ held.second.difference +ℤ pos 2 *ℤ (left +ℤ right)

abbrev pub inner_parts : ℕ → Key → Held → ℤ → ℤ → Value
inner_parts depth key held left right =
    if nat_le (unsigned_abs left) (2 ^ 90) && nat_le (unsigned_abs right) (2 ^ 90)
    then given_product depth key held.first.sum held.second.sum (part_of held left right)
    else Bad

abbrev pub inner_right : ℕ → Key → Held → ℤ → Value → Value
inner_right depth key held left (Product right) = inner_parts depth key held left right
inner_right depth key held left Done = Bad
inner_right depth key held left (Sum sum) = Bad
inner_right depth key held left (Lines rows) = Bad
inner_right depth key held left (Count count) = Bad
inner_right depth key held left Bad = Bad

abbrev pub inner_value : ℕ → Key → Held → Value → Value → Value
inner_value depth key held (Product left) right = inner_right depth key held left right
inner_value depth key held Done right = Bad
inner_value depth key held (Sum sum) right = Bad
inner_value depth key held (Lines rows) right = Bad
inner_value depth key held (Count count) right = Bad
inner_value depth key held Bad right = Bad

abbrev pub combine_inner : ℕ → Key → Held → Value → Value → Combination
combine_inner depth key held left right = combination.Give None (inner_value depth key held left right)
