-- The right cells of entries, and the right numbers of entries that lie on a rank.
use Rattle.std.specs.Prelude.{◌≡◌, ℕ, if◌then◌else◌, IfSome}
use Rattle.app_core.specs.declared.CellName.{CellName}
use Rattle.tree_key.specs.Keys.{Key}
use Rattle.tree_model.specs.Nodes.{node as tree_node}
use Rattle.tree_model.specs.Nodes.{Node as NodeData}
use Rattle.tree_model.specs.Nodes.Node.{Leaf}
use Rattle.tree_model.specs.Trees.{box_sum}
use Rattle.tree_model.specs.Versions.{Version}
use Rattle.haar_node.specs.declared.Node.{Node}
use Rattle.haar_node.specs.Node.{node_of}
use Rattle.haar_units.specs.Places.{key_at}
use Rattle.haar_meaning.specs.PlannedJobs.{PlannedJob, standing, IfBefore, version_of}
use Rattle.haar_meaning.specs.RightValues.{rank_count}

-- what an entry of a version has: the node of a key of its tree; at another key the leaf of this key, which `coarsen` puts, and
-- erases later
abbrev pub stored_node : Version → Key → NodeData
stored_node version k = if version.tree.shape k then tree_node version.form version.tree k else Leaf (box_sum version.tree k)

abbrev pub IsStored : PlannedJob → ℕ → Key → Node → Type 0
IsStored job version k cell = IfBefore (standing job version) (IfSome (version_of job version) (λ written. node_of cell ≡ stored_node written k))

-- a right cell of an entry; of a version that overflows, or is written later, each cell is right
abbrev pub IsRightCell : PlannedJob → CellName → Node → Type 0
IsRightCell job name cell = IsStored job name.version (key_at name.place) cell

-- a right number of entries of a version on a rank
abbrev pub IsRightSize : PlannedJob → ℕ → ℕ → ℕ → Type 0
IsRightSize job rank version number = IfBefore (standing job version) (IfSome (version_of job version) (λ written. number ≡ rank_count job written rank))
