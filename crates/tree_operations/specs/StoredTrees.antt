-- What the evaluator stores of a version of a tree.
use Rattle.std.specs.Prelude.{◌≡◌, ℕ, ⊤, Option, Some, None, ℤ}
use Rattle.std.specs.BTreeMap.{BTreeMap}
use Rattle.tree_key.specs.Keys.{Key}
use Rattle.tree_model.specs.Nodes.{Form}
use Rattle.tree_model.specs.Nodes.Form.{Reconstructed, Compressed}
use Rattle.tree_model.specs.Trees.{Tree}
use Rattle.tree_model.specs.Versions.{Version}
use Rattle.tree_operations.specs.Numbers.{KeepsLeaves}
use Rattle.tree_operations.specs.InnerProducts.{IsCompressed}
use Rattle.tree_operations.specs.declared.stored.Compressed.{Compressed as CompressedTree}
use Rattle.tree_operations.specs.declared.stored.StoredTree.{StoredTree}
use Rattle.tree_operations.specs.declared.stored.StoredTree.TheVariants.{Reconstructed as KeptLeaves, Compressed as KeptDifferences}

-- the tree has this depth, and the map has the sums of its leaves
pub record IsReconstructed (t : Tree) (depth : ℕ) (leaves : BTreeMap Key ℤ) : Type 0 where
  pub keeps : KeepsLeaves t leaves
  pub deep : t.depth ≡ depth

-- a tree of this depth is stored in this form
abbrev pub KeepsForm : ℕ → Form → Tree → StoredTree → Type 0
KeepsForm depth Reconstructed t (KeptLeaves leaves) = IsReconstructed t depth leaves
KeepsForm depth Reconstructed t (KeptDifferences compressed) = ⊥
KeepsForm depth Compressed t (KeptLeaves leaves) = ⊥
KeepsForm depth Compressed t (KeptDifferences compressed) = IsCompressed t depth compressed.sum compressed.differences

-- the version that there is is stored, or nothing where there is none
abbrev pub Matches : ℕ → Option StoredTree → Option Version → Type 0
Matches depth None None = ⊤
Matches depth None (Some version) = ⊥
Matches depth (Some kept) None = ⊥
Matches depth (Some kept) (Some version) = KeepsForm depth version.form version.tree kept

-- the leaves, or the differences, of the tree that is read, where there is one
abbrev pub HasLeaves : ℕ → Option (BTreeMap Key ℤ) → Option Tree → Type 0
HasLeaves depth None None = ⊤
HasLeaves depth None (Some t) = ⊥
HasLeaves depth (Some leaves) None = ⊥
HasLeaves depth (Some leaves) (Some t) = IsReconstructed t depth leaves

abbrev pub HasDifferences : ℕ → Option CompressedTree → Option Tree → Type 0
HasDifferences depth None None = ⊤
HasDifferences depth None (Some t) = ⊥
HasDifferences depth (Some compressed) None = ⊥
HasDifferences depth (Some compressed) (Some t) = IsCompressed t depth compressed.sum compressed.differences

-- the same of two trees
abbrev pub HaveLeaves : ℕ → Option (BTreeMap Key ℤ × BTreeMap Key ℤ) → Option (Tree × Tree) → Type 0
HaveLeaves depth None None = ⊤
HaveLeaves depth None (Some trees) = ⊥
HaveLeaves depth (Some leaves) None = ⊥
HaveLeaves depth (Some leaves) (Some trees) = IsReconstructed trees.0 depth leaves.0 × IsReconstructed trees.1 depth leaves.1

abbrev pub HaveDifferences : ℕ → Option (CompressedTree × CompressedTree) → Option (Tree × Tree) → Type 0
HaveDifferences depth None None = ⊤
HaveDifferences depth None (Some trees) = ⊥
HaveDifferences depth (Some compressed) None = ⊥
HaveDifferences depth (Some compressed) (Some trees) =
    IsCompressed trees.0 depth compressed.0.sum compressed.0.differences × IsCompressed trees.1 depth compressed.1.sum compressed.1.differences
