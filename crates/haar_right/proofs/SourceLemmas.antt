-- What a down unit finds of the version that its command reads, where the version is known.
use Rattle.std.proofs.Common.{◌≡◌, ℕ, true, false, ap, ◌∙◌, subst}
use Rattle.std.specs.Prelude.{◌==◌, Option, Some}
use Rattle.tree_key.specs.Keys.{Key}
use Rattle.tree_model.specs.Nodes.{Form}
use Rattle.tree_model.specs.Nodes.Form.{Reconstructed, Compressed}
use Rattle.tree_model.specs.StoredTrees.{difference_at}
use Rattle.tree_model.specs.Trees.{Tree, box_sum}
use Rattle.tree_model.specs.Versions.{tree_in}
use Rattle.haar_node.specs.declared.Node.{Node}
use Rattle.haar_base.specs.declared.operation.Operation.{Operation}
use Rattle.haar_base.specs.declared.unit.Side.{Side}
use Rattle.haar_base.specs.Readings.{leaf_at, sums, sums_at}
use Rattle.haar_meaning.specs.PlannedJobs.{PlannedJob, IsPlannedJob, standing, version_of}
use Rattle.haar_meaning.specs.PlannedJobs.Standing.{Before}
use Rattle.haar_meaning.specs.Sides.{form_read, knows_sums, IsRightSide}
use Rattle.haar_right.specs.Laws.{IsRightRead}
use Rattle.haar_right.proofs.KnownLemmas.{IsKnown}
use Rattle.haar_right.proofs.ReadingLemmas.{leaf_in, leaf_read, sums_read, root_sum, root_sums_read}
use Rattle.haar_right.proofs.DecisionLemmas.{side_is, cell_is, tree_is_known}

pub known_source : (job : PlannedJob) (form : Form) (source : ℕ) (t : Tree) → IsPlannedJob job → standing job source ≡ Before → tree_in form (version_of job source) ≡ Some t → IsKnown job.depth t
known_source job form source t planned before read = tree_is_known job form source t planned before read

pub leaf_found : (job : PlannedJob) (operation : Operation) (source : ℕ) (k : Key) (side : Side) (cell : Option Node) (t : Tree) → IsPlannedJob job → standing job source ≡ Before
    → tree_in (form_read operation) (version_of job source) ≡ Some t → tree_in Reconstructed (version_of job source) ≡ Some t
    → IsRightSide job operation source k side → IsRightRead job source k side cell → leaf_at side cell ≡ leaf_in t k
leaf_found job operation source k side cell t planned before read read_as right_side right_read =
    let same = side_is job operation source k side t before read right_side in
    let known = tree_is_known job Reconstructed source t planned before read_as in
    let has = cell_is job operation Reconstructed source k t cell before read_as (subst (λ (s : Side). IsRightRead job source k s cell) same right_read) in
    ap (λ (s : Side). leaf_at s cell) same ∙ leaf_read operation t k cell known.tree has

pub sums_found : (job : PlannedJob) (operation : Operation) (source : ℕ) (k : Key) (side : Side) (cell : Option Node) (t : Tree) → standing job source ≡ Before → knows_sums operation ≡ true
    → tree_in (form_read operation) (version_of job source) ≡ Some t → tree_in Compressed (version_of job source) ≡ Some t
    → IsRightSide job operation source k side → IsRightRead job source k side cell → sums_at (k.level == 0) side cell ≡ Some (sums (box_sum t k) (difference_at t k))
sums_found job operation source k side cell t before knows read read_as right_side right_read =
    let same = side_is job operation source k side t before read right_side in
    let has = cell_is job operation Compressed source k t cell before read_as (subst (λ (s : Side). IsRightRead job source k s cell) same right_read) in
    ap (λ (s : Side). sums_at (k.level == 0) s cell) same ∙ sums_read operation t k cell knows has

-- by a unit that doesn't know the sums, at a key of the tree
pub root_sums_found : (job : PlannedJob) (operation : Operation) (source : ℕ) (k : Key) (side : Side) (cell : Option Node) (t : Tree) → standing job source ≡ Before → knows_sums operation ≡ false → t.shape k ≡ true
    → tree_in (form_read operation) (version_of job source) ≡ Some t → tree_in Compressed (version_of job source) ≡ Some t
    → IsRightSide job operation source k side → IsRightRead job source k side cell → sums_at (k.level == 0) side cell ≡ Some (sums (root_sum t k) (difference_at t k))
root_sums_found job operation source k side cell t before knows inside read read_as right_side right_read =
    let same = side_is job operation source k side t before read right_side in
    let has = cell_is job operation Compressed source k t cell before read_as (subst (λ (s : Side). IsRightRead job source k s cell) same right_read) in
    ap (λ (s : Side). sums_at (k.level == 0) s cell) same ∙ root_sums_read operation t k cell knows inside has
