-- The nodes by which a tree is kept, in the two forms of the Haar transform: sums at the leaves, or the sum at the root and
-- the differences below it.
use Rattle.std.specs.Prelude.{ℕ, ◌^◌, ◌≤◌, ⊤, Option, Some, None, IfSome, if◌then◌else◌, ◌==◌, ℤ}
use Rattle.std.specs.Int.RustNames.{unsigned_abs}
use Rattle.tree_key.specs.Keys.{Key}
use Rattle.tree_model.specs.Shapes.{is_leaf}
use Rattle.tree_model.specs.Trees.{Tree, box_sum, difference}

pub data Form : Type 0 where
  Reconstructed : Form
  Compressed : Form

-- what is kept at a key. `Bad` is no tree's: it is where a command overflowed
pub data Node : Type 0 where
  Leaf : (sum : ℤ) → Node
  Branch : Node
  Inner : (difference : ℤ) → Node
  Root : (sum : ℤ) (difference : Option ℤ) → Node
  Bare : Node
  Bad : Node

-- the largest number in a node, in absolute value
abbrev pub max_number : ℕ
max_number = 2 ^ 41

-- all numbers of the node are at most that
abbrev pub NumbersFit : Node → Type 0
NumbersFit (Leaf sum) = unsigned_abs sum ≤ max_number
NumbersFit Branch = ⊤
NumbersFit (Inner difference) = unsigned_abs difference ≤ max_number
NumbersFit (Root sum difference) = (unsigned_abs sum ≤ max_number) × IfSome difference (λ d. unsigned_abs d ≤ max_number)
NumbersFit Bare = ⊤
NumbersFit Bad = ⊤

abbrev pub reconstructed_node : Tree → Key → Node
reconstructed_node t k = if is_leaf t.shape k then Leaf (box_sum t k) else Branch

abbrev pub compressed_root : Tree → Key → Node
compressed_root t k = Root (box_sum t k) (if is_leaf t.shape k then None else Some (difference t k))

abbrev pub compressed_below : Tree → Key → Node
compressed_below t k = if is_leaf t.shape k then Bare else Inner (difference t k)

-- the node of a key of the tree's shape
abbrev pub node : Form → Tree → Key → Node
node Reconstructed t k = reconstructed_node t k
node Compressed t k = if k.level == 0 then compressed_root t k else compressed_below t k
