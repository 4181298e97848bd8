-- A tree that was found is the one that is read.
use Rattle.std.proofs.Common.{◌≡◌, ℕ, Option, Some, None, refl, ℤ}
use Rattle.std.specs.BTreeMap.{BTreeMap}
use Rattle.tree_key.specs.Keys.{Key}
use Rattle.tree_model.specs.Trees.{Tree}
use Rattle.tree_operations.specs.InnerProducts.{IsCompressed}
use Rattle.tree_operations.specs.StoredTrees.{IsReconstructed, HasLeaves, HasDifferences, HaveLeaves, HaveDifferences}
use Rattle.tree_operations.specs.declared.stored.Compressed.{Compressed as CompressedTree}

-- the tree that is read, and is stored by its leaves
pub record IsReadFrom (depth : ℕ) (leaves : BTreeMap Key ℤ) (read : Option Tree) : Type 0 where
  pub tree : Tree
  pub is : read ≡ Some tree
  pub keeps : IsReconstructed tree depth leaves

pub leaves_read : (depth : ℕ) (leaves : BTreeMap Key ℤ) (read : Option Tree) → HasLeaves depth (Some leaves) read → IsReadFrom depth leaves read
leaves_read depth leaves None has = absurd has
leaves_read depth leaves (Some t) has = record { tree = t; is = refl; keeps = has }

-- the tree that is read, and is stored by its differences
pub record IsReadCompressed (depth : ℕ) (compressed : CompressedTree) (read : Option Tree) : Type 0 where
  pub tree : Tree
  pub is : read ≡ Some tree
  pub keeps : IsCompressed tree depth compressed.sum compressed.differences

pub differences_read : (depth : ℕ) (compressed : CompressedTree) (read : Option Tree) → HasDifferences depth (Some compressed) read → IsReadCompressed depth compressed read
differences_read depth compressed None has = absurd has
differences_read depth compressed (Some t) has = record { tree = t; is = refl; keeps = has }

-- two trees that are read, and are stored by their differences
pub record AreReadCompressed (depth : ℕ) (left right : CompressedTree) (read : Option (Tree × Tree)) : Type 0 where
  pub first : Tree
  pub second : Tree
  pub is : read ≡ Some (first, second)
  pub keeps_first : IsCompressed first depth left.sum left.differences
  pub keeps_second : IsCompressed second depth right.sum right.differences

pub both_differences_read : (depth : ℕ) (left right : CompressedTree) (read : Option (Tree × Tree)) → HaveDifferences depth (Some (left, right)) read → AreReadCompressed depth left right read
both_differences_read depth left right None has = absurd has
both_differences_read depth left right (Some trees) has = record { first = trees.0; second = trees.1; is = refl; keeps_first = has.0; keeps_second = has.1 }

-- two trees that are read, and are stored by their leaves
pub record AreReadFrom (depth : ℕ) (left right : BTreeMap Key ℤ) (read : Option (Tree × Tree)) : Type 0 where
  pub first : Tree
  pub second : Tree
  pub is : read ≡ Some (first, second)
  pub keeps_first : IsReconstructed first depth left
  pub keeps_second : IsReconstructed second depth right

pub both_leaves_read : (depth : ℕ) (left right : BTreeMap Key ℤ) (read : Option (Tree × Tree)) → HaveLeaves depth (Some (left, right)) read → AreReadFrom depth left right read
both_leaves_read depth left right None has = absurd has
both_leaves_read depth left right (Some trees) has = record { first = trees.0; second = trees.1; is = refl; keeps_first = has.0; keeps_second = has.1 }
