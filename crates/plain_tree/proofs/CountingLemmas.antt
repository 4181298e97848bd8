-- What is counted of the stored trees, and the keys that commands go over.
use Rattle.std.proofs.Common.{◌≡◌, ℕ, Bool, true, false, Option, Some, None, refl, sym, ℤ}
use Rattle.std.proofs.lemmas.Bool.{true≢false}
use Rattle.std.specs.BTreeMap.{BTreeMap}
use Rattle.std.specs.Option.{option_map, option_map_or}
use Rattle.tree_key.specs.Keys.{Key}
use Rattle.tree_model.specs.Commands.{Command}
use Rattle.tree_model.specs.Commands.Command.{Project, Refine, Coarsen, Compress, Reconstruct, Add, Mul, Inner, Print, Size, Fence}
use Rattle.tree_model.specs.Nodes.{Form}
use Rattle.tree_model.specs.Nodes.Form.{Reconstructed, Compressed}
use Rattle.tree_model.specs.Operations.{coarsened, product, refined, weighted_sum}
use Rattle.tree_model.specs.Shapes.{IsShape}
use Rattle.tree_model.specs.Totals.{Distribution, command_total, nothing, over, visits_total}
use Rattle.tree_model.specs.Trees.{Tree}
use Rattle.tree_model.specs.Versions.{Version, Versions, read, read_two, written}
use Rattle.tree_totals.specs.Counts.{HasDifferences, HasLeafSums}
use Rattle.tree_operations.specs.Numbers.{KeepsDifferences, KeepsLeaves}
use Rattle.tree_operations.specs.StoredTrees.{HasLeaves, IsReconstructed, KeepsForm, Matches}
use Rattle.tree_operations.specs.declared.stored.StoredTree.{StoredTree}
use Rattle.tree_operations.specs.declared.stored.StoredTree.TheVariants.{Reconstructed as KeptLeaves, Compressed as KeptDifferences}

-- a map that keeps a tree has what is counted
pub leaf_sums : (t : Tree) (m : BTreeMap Key ℤ) → KeepsLeaves t m → HasLeafSums t m
leaf_sums t m keeps = record { tree = keeps.sound.tree; deep = keeps.sound.depth; at = keeps.at }

pub differences : (t : Tree) (m : BTreeMap Key ℤ) → KeepsDifferences t m → HasDifferences t m
differences t m keeps = record { tree = keeps.sound.tree; deep = keeps.sound.depth; at = keeps.at }

-- the version of a stored tree
pub record IsMatched (depth : ℕ) (kept : StoredTree) (o : Option Version) : Type 0 where
  pub version : Version
  pub is : o ≡ Some version
  pub keeps : KeepsForm depth version.form version.tree kept

pub matched : (depth : ℕ) (kept : StoredTree) (o : Option Version) → Matches depth (Some kept) o → IsMatched depth kept o
matched depth kept None is = absurd is
matched depth kept (Some version) is = record { version = version; is = refl; keeps = is }

pub kept_shape : (depth : ℕ) (form : Form) (t : Tree) (kept : StoredTree) → KeepsForm depth form t kept → IsShape depth t.shape
kept_shape depth Reconstructed t (KeptLeaves leaves) keeps = rw (← keeps.deep) keeps.keeps.sound.tree.shape
kept_shape depth Reconstructed t (KeptDifferences tree) keeps = absurd keeps
kept_shape depth Compressed t (KeptLeaves leaves) keeps = absurd keeps
kept_shape depth Compressed t (KeptDifferences tree) keeps = rw (← keeps.deep) keeps.keeps.sound.tree.shape

-- the keys of the tree that a command makes of what it reads
made_total :
    {T : Type 0} (d : Distribution) (depth : ℕ) (form : Form) (made : T → Tree) (o : Option T) →
    option_map_or (λ version. visits_total d depth (over version.tree.shape)) (option_map (λ x. let version : Version = record { form = form; tree = made x } in version) o) nothing
    ≡ option_map_or (visits_total d depth) (option_map (λ x. over (made x).shape) o) nothing
made_total d depth form made None = refl
made_total d depth form made (Some x) = refl

-- a command that visits the keys of the tree that it writes, and erases none
abbrev pub is_over_written : Command → Bool
is_over_written (Project name projection) = true
is_over_written (Refine name level) = true
is_over_written (Compress name) = true
is_over_written (Reconstruct name) = true
is_over_written (Add name left_factor left right_factor right) = true
is_over_written (Mul name left right) = true
is_over_written _ = false

pub written_total :
    (d : Distribution) (depth : ℕ) (versions : Versions) (c : Command) →
    is_over_written c ≡ true →
    option_map_or (λ version. visits_total d depth (over version.tree.shape)) (written depth versions c) nothing ≡ command_total d depth versions c
written_total d depth versions (Project name projection) is = refl
written_total d depth versions (Refine name level) is = made_total d depth Reconstructed (refined level) (read versions Reconstructed name)
written_total d depth versions (Compress name) is = made_total d depth Compressed (λ t. t) (read versions Reconstructed name)
written_total d depth versions (Reconstruct name) is = made_total d depth Reconstructed (λ t. t) (read versions Compressed name)
written_total d depth versions (Add name left_factor left right_factor right) is = made_total d depth Compressed (λ p. weighted_sum left_factor p.0 right_factor p.1) (read_two versions Compressed left right)
written_total d depth versions (Mul name left right) is = made_total d depth Reconstructed (λ p. product p.0 p.1) (read_two versions Reconstructed left right)
written_total d depth versions (Coarsen name) is = absurd (true≢false (sym is))
written_total d depth versions (Inner left right) is = absurd (true≢false (sym is))
written_total d depth versions (Print name) is = absurd (true≢false (sym is))
written_total d depth versions (Size name) is = absurd (true≢false (sym is))
written_total d depth versions Fence is = absurd (true≢false (sym is))

-- a tree that is read and stored by its leaves, and the coarsened tree that is stored of it
pub record AreCoarsened (depth : ℕ) (leaves : BTreeMap Key ℤ) (coarser : StoredTree) (o : Option Tree) : Type 0 where
  pub tree : Tree
  pub is : o ≡ Some tree
  pub keeps : IsReconstructed tree depth leaves
  pub keeps_coarser : KeepsForm depth Reconstructed (coarsened tree) coarser

pub coarsened_read :
    (depth : ℕ) (leaves : BTreeMap Key ℤ) (coarser : StoredTree) (o : Option Tree) →
    HasLeaves depth (Some leaves) o →
    Matches depth (Some coarser) (option_map (λ t. let version : Version = record { form = Reconstructed; tree = coarsened t } in version) o) →
    AreCoarsened depth leaves coarser o
coarsened_read depth leaves coarser None has matches = absurd has
coarsened_read depth leaves coarser (Some t) has matches = record { tree = t; is = refl; keeps = has; keeps_coarser = matches }
