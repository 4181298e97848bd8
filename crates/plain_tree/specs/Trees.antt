-- The trees that the names of a job stand for, as an evaluator keeps them.
use Rattle.std.specs.Prelude.{ℕ, List, Option}
use Rattle.std.specs.Borrow.{Bor}
use Rattle.std.specs.Cmp.Lexicographic.{slice_cmp}
use Rattle.std.specs.Ordering.{nat_cmp}
use Rattle.std.specs.BTreeMap.{BTreeMap, get_by}
use Rattle.tree_model.specs.Versions.{Versions}
use Rattle.tree_operations.specs.StoredTrees.{Matches}
use Rattle.tree_operations.specs.declared.stored.StoredTree.{StoredTree}

-- the tree that a map has for a name
abbrev pub kept_at : BTreeMap (Bor (List ℕ)) StoredTree → List ℕ → Option StoredTree
kept_at trees name = get_by (λ key. slice_cmp nat_cmp name key.now) trees

-- the map has for each name the version that the name stands for
pub record HasVersions (depth : ℕ) (versions : Versions) (trees : BTreeMap (Bor (List ℕ)) StoredTree) : Type 0 where
  pub at : (name : List ℕ) → Matches depth (kept_at trees name) (versions name)
