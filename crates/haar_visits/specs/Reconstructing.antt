-- Units of `reconstruct`.
use Rattle.std.specs.Prelude.{ℕ, Bool, true, ◌==◌, nat_lt, if◌then◌else◌, Option, Some, None, ℤ}
use Rattle.tree_key.specs.Keys.{Key}
use Rattle.haar_node.specs.declared.Node.{Node}
use Rattle.haar_node.specs.declared.Node.TheVariants as node
use Rattle.haar_base.specs.declared.unit.Side.{Side}
use Rattle.haar_base.specs.declared.value.Value.TheVariants.{Done}
use Rattle.haar_base.specs.declared.decisions.Visit.{Visit}
use Rattle.haar_base.specs.declared.decisions.Visit.TheVariants as visit
use Rattle.haar_base.specs.declared.readings.Sums.{Sums}
use Rattle.haar_base.specs.Readings.{sums_at, sides_by}
use Rattle.haar_base.specs.Decisions.{bad_visit}
use Rattle.haar_visits.specs.Refining.{split_one}

-- by the sum over the key's box and its difference
abbrev pub reconstruct_by : ℕ → Key → ℤ → Option ℤ → Visit
reconstruct_by depth key sum None = visit.Give (Some (node.Leaf sum)) Done
reconstruct_by depth key sum (Some difference) = if nat_lt key.level depth then split_one (sides_by sum (Some difference)) else bad_visit true

abbrev pub reconstruct_sums : ℕ → Key → Option Sums → Visit
reconstruct_sums depth key None = bad_visit true
reconstruct_sums depth key (Some s) = reconstruct_by depth key s.sum s.difference

-- where a key has no difference, it becomes a leaf
abbrev pub visit_reconstructed : ℕ → Key → Side → Option Node → Visit
visit_reconstructed depth key side cell = reconstruct_sums depth key (sums_at (key.level == 0) side cell)
