-- What units decide for where they can't go on, and what most up units do.
use Rattle.std.specs.Prelude.{Bool, true, false, ◌&&◌, if◌then◌else◌, Option, Some, None}
use Rattle.haar_node.specs.declared.Node.{Node}
use Rattle.haar_node.specs.declared.Node.TheVariants as node
use Rattle.haar_base.specs.declared.value.Value.{Value}
use Rattle.haar_base.specs.declared.value.Value.TheVariants.{Done, Sum, Product, Lines, Count, Bad}
use Rattle.haar_base.specs.declared.decisions.Visit.{Visit}
use Rattle.haar_base.specs.declared.decisions.Visit.TheVariants as visit
use Rattle.haar_base.specs.declared.decisions.Combination.{Combination}
use Rattle.haar_base.specs.declared.decisions.Combination.TheVariants as combination

abbrev pub bad_node : Bool → Option Node
bad_node writes = if writes then Some node.Bad else None

-- a down unit that can't go on puts a bad node, where its command writes a tree, and gives a bad value
abbrev pub bad_visit : Bool → Visit
bad_visit writes = visit.Give (bad_node writes) Bad

abbrev pub bad_combination : Bool → Combination
bad_combination writes = combination.Give (bad_node writes) Bad

abbrev pub is_done : Value → Bool
is_done Done = true
is_done (Sum sum) = false
is_done (Product product) = false
is_done (Lines rows) = false
is_done (Count count) = false
is_done Bad = false

-- a key is done where both children are
abbrev pub done : Value → Value → Combination
done left right = combination.Give None (if is_done left && is_done right then Done else Bad)
