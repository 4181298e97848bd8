-- What a down unit finds of one tree at its key, and what the units of the two children know of it.
use Rattle.std.specs.Prelude.{ℕ, Bool, true, false, ◌==◌, if◌then◌else◌, Option, Some, None, ℤ, pos}
use Rattle.std.specs.Option.{option_map}
use Rattle.haar_node.specs.declared.Node.{Node}
use Rattle.haar_node.specs.declared.Node.TheVariants as node
use Rattle.haar_base.specs.declared.unit.Side.{Side}
use Rattle.haar_base.specs.declared.unit.Side.TheVariants.{Nothing, Entry, Below}
use Rattle.haar_base.specs.declared.unit.Sides.{Sides}
use Rattle.haar_base.specs.declared.unit.Held.{Held}
use Rattle.haar_base.specs.declared.unit.Haar.{Haar}
use Rattle.haar_base.specs.declared.readings.Leaf.{Leaf}
use Rattle.haar_base.specs.declared.readings.Leaf.TheVariants.{Whole, Cut, Wrong}
use Rattle.haar_base.specs.declared.readings.Sums.{Sums}
use Rattle.haar_base.specs.declared.readings.ChildSides.{ChildSides}
use Rattle.haar_base.specs.Numbers.{halves}

-- what a node of a reconstructed tree says
abbrev pub leaf_of : Option Node → Leaf
leaf_of None = Wrong
leaf_of (Some (node.Leaf sum)) = Whole sum
leaf_of (Some node.Branch) = Cut
leaf_of (Some (node.Inner difference)) = Wrong
leaf_of (Some (node.Root sum difference)) = Wrong
leaf_of (Some node.Bare) = Wrong
leaf_of (Some node.Bad) = Wrong

-- what the reconstructed tree of a side has
abbrev pub leaf_at : Side → Option Node → Leaf
leaf_at Nothing cell = Wrong
leaf_at (Entry known) cell = leaf_of cell
leaf_at (Below sum) cell = Whole sum

abbrev pub sums : ℤ → Option ℤ → Sums
sums sum difference = record { sum = sum; difference = difference }

-- what a node of a compressed tree says, at the root, and elsewhere where the sum over the box is known
abbrev pub root_sums : Option Node → Option Sums
root_sums None = None
root_sums (Some (node.Leaf sum)) = None
root_sums (Some node.Branch) = None
root_sums (Some (node.Inner difference)) = None
root_sums (Some (node.Root sum difference)) = Some (sums sum difference)
root_sums (Some node.Bare) = None
root_sums (Some node.Bad) = None

abbrev pub inner_sums : ℤ → Option Node → Option Sums
inner_sums known None = None
inner_sums known (Some (node.Leaf sum)) = None
inner_sums known (Some node.Branch) = None
inner_sums known (Some (node.Inner difference)) = Some (sums known (Some difference))
inner_sums known (Some (node.Root sum difference)) = None
inner_sums known (Some node.Bare) = Some (sums known None)
inner_sums known (Some node.Bad) = None

-- what the compressed tree of a side has, at the root or not
abbrev pub sums_at : Bool → Side → Option Node → Option Sums
sums_at root Nothing cell = None
sums_at true (Entry known) cell = root_sums cell
sums_at false (Entry known) cell = inner_sums known cell
sums_at root (Below sum) cell = Some (sums sum None)

-- the sides of the children

abbrev pub both_entries : ℤ × ℤ → ChildSides
both_entries p = record { left = Entry p.0; right = Entry p.1 }

abbrev pub both_below : ℤ × ℤ → ChildSides
both_below p = record { left = Below p.0; right = Below p.1 }

-- below a key of a reconstructed tree
abbrev pub leaf_sides : Leaf → Option ChildSides
leaf_sides (Whole sum) = option_map both_below (halves sum (pos 0))
leaf_sides Cut = Some (record { left = Entry (pos 0); right = Entry (pos 0) })
leaf_sides Wrong = None

-- below a key of a compressed tree, by the sum over its box and its difference
abbrev pub sides_by : ℤ → Option ℤ → Option ChildSides
sides_by sum None = option_map both_below (halves sum (pos 0))
sides_by sum (Some difference) = option_map both_entries (halves sum difference)

abbrev pub sum_sides : Sums → Option ChildSides
sum_sides s = sides_by s.sum s.difference

abbrev pub entry : Side
entry = Entry (pos 0)

abbrev pub one : Side → Sides
one side = record { first = side; second = Nothing }

abbrev pub no_haar : Haar
no_haar = record { sum = pos 0; difference = pos 0 }

abbrev pub nothing_held : Held
nothing_held = record { first = no_haar; second = no_haar }
