-- Lemmas that crates above use: the starts of a command are units of the job.
use Rattle.std.proofs.Common.{◌≡◌, ◌≢◌, ℕ, zero, suc, ◌+◌, ◌^◌, ◌≤◌, ◌<◌, Bool, true, false, List, [], ◌∷◌, ◌++◌, Option, Some, None, ℤ, pos, refl, sym, ap, ◌∙◌, subst, arith, nat_lt, nat_le}
use Rattle.std.specs.List.{AllByRecursion}
use Rattle.std.proofs.lemmas.Bool.{cond-true, and_from, le-leb}
use Rattle.app_core.specs.Effects.{IsRightEffect}
use Rattle.app_core.specs.declared.Effect.TheVariants.{Spawn, SpawnNeeding}
use Rattle.tree_key.specs.Keys.{root}
use Rattle.tree_model.specs.Nodes.{Form}
use Rattle.tree_model.specs.Shapes.{is_key_of}
use Rattle.tree_model.specs.Trees.{Tree}
use Rattle.tree_model.specs.Versions.{tree_in}
use Rattle.job_data.specs.Data.{form_of}
use Rattle.haar_units.specs.Distributions.{by_map}
use Rattle.haar_units.specs.Jobs.{is_on_trees}
use Rattle.haar_units.specs.ModelJobs.{keys_at}
use Rattle.haar_units.specs.Units.{count_futures}
use Rattle.haar_units.proofs.JobTraversalLemmas.{jobs_traversed}
use Rattle.haar_base.specs.declared.unit.Side.{Side}
use Rattle.haar_base.specs.declared.unit.Side.TheVariants.{Nothing, Entry, Below}
use Rattle.haar_base.specs.declared.unit.Sides.{Sides}
use Rattle.haar_base.specs.declared.unit.Unit.TheVariants.{Down, Up, Clear, Count, Total}
use Rattle.haar_base.specs.declared.operation.Operation.{Operation}
use Rattle.haar_base.specs.declared.operation.Operation.TheVariants.{Project, Refine, Coarsen, Compress, Reconstruct, Add, Mul, Inner, Print, Size, Fence}
use Rattle.haar_base.specs.Operations.{operation_at, word_of, first_source, second_source}
use Rattle.haar_base.specs.Readings.{entry, one}
use Rattle.haar_meaning.specs.PlannedJobs.{PlannedJob, IsPlannedJob, HasPlan, standing, version_of}
use Rattle.haar_meaning.specs.RightValues.{IsRightValue}
use Rattle.haar_meaning.specs.RightCells.{IsRightCell}
use Rattle.haar_meaning.specs.Sides.{IsRightSide, form_read, known_sum, side_of}
use Rattle.haar_meaning.specs.JobUnits.{IsUnit, IsVisited}
use Rattle.haar_meaning.specs.RightDecisions.{down_to}
use Rattle.haar_right.proofs.PlanLemmas.{version_in, version_with, OneRead, TwoRead, refine_plan, coarsen_plan, compress_plan, reconstruct_plan, add_plan, mul_plan, inner_plan, print_plan}
use Rattle.haar_right.proofs.KnownLemmas.{before_if, some_if, version_is_tree}
use Rattle.haar_steps.specs.Effects.{HaarEffect}
use Rattle.haar_steps.specs.Starts.{starting_of, starts_if, starts_by, spawn_counts}
use Rattle.haar_laws.specs.Laws.{StartsAreRight}

module _ (job : PlannedJob) (planned : IsPlannedJob job) where
  visited_root : (command : ℕ) → IsVisited job command root
  visited_root command = before_if (standing job command) (λ before. some_if (λ keys. keys.visited root ≡ true) (keys_at job.depth job.commands command) (λ keys there.
      let over = jobs_traversed (by_map job.owners job.ranks) job.depth job.commands command keys there in
      sym (over.0.visits 1) ∙ over.1.root))

  root_key : is_key_of job.depth root ≡ true
  root_key = and_from (nat_le 0 job.depth) (nat_lt 0 (2 ^ 0)) (le-leb 0 job.depth (omega arith)) refl

  -- there is no version 0
  read_some : (form : Form) (source : ℕ) (t : Tree) → tree_in form (version_of job source) ≡ Some t → source ≢ 0
  read_some form source t read none = no (ap (λ (s : ℕ). tree_in form (version_of job s)) (sym none) ∙ read)
    where
      no : None ≡ Some t → ⊥
      no e = cc

  side : (operation : Operation) (source : ℕ) → source ≢ 0 → ((t : Tree) → known_sum operation t root ≡ pos 0) → IsRightSide job operation source root entry
  side operation zero some sum = absurd (some refl)
  side operation (suc before) some sum =
      before_if (standing job (suc before)) (λ _. some_if (λ t. entry ≡ side_of operation t root) (tree_in (form_read operation) (version_of job (suc before))) (λ t there.
      let tree = version_is_tree job (suc before) (version_with (form_read operation) t) (version_in (form_read operation) (version_of job (suc before)) t there) in
      sym (cond-true (t.shape root) (Entry (known_sum operation t root)) _ tree.tree.shape.root ∙ ap Entry (sum t))))

  root_unit : (command : ℕ) (operation : Operation) (sides : Sides) → operation_at job.operations command ≡ Some operation → is_on_trees (word_of operation) ≡ true
      → IsRightSide job operation (first_source operation) root sides.first → IsRightSide job operation (second_source operation) root sides.second → IsUnit job (down_to command root sides)
  root_unit command operation sides at on first second = (operation, record { command = record { at = at; on_trees = on }; key = root_key; visited = visited_root command; first = first; second = second })

  abbrev Right : List HaarEffect → Type 0
  Right es = AllByRecursion (IsRightEffect (IsRightValue job) (IsRightCell job) (IsUnit job)) es

  counts_right : (command source first n : ℕ) → operation_at job.operations command ≡ Some (Size source) → first + n ≤ job.ranks
      → Right (spawn_counts command first n ++ SpawnNeeding (Total command job.ranks) (count_futures command 0 job.ranks) ∷ [])
  counts_right command source first zero at few = ((source, record { at = at; all = refl }), tt)
  counts_right command source first (suc n) at few = ((source, record { at = at; within = omega (arith, few) }), counts_right command source (suc first) n at (omega (arith, few)))

  by_operation : (command : ℕ) (operation : Operation) → operation_at job.operations command ≡ Some operation → Right (starts_by command job.ranks operation)
  by_operation command (Project function level tolerance) at = (root_unit command (Project function level tolerance) _ at refl refl refl, tt)
  by_operation command (Refine level source) at =
      let read = refine_plan job planned command level source (planned.plans command (Refine level source) at) in
      (root_unit command (Refine level source) (one entry) at refl (side (Refine level source) source (read_some Form.Reconstructed source read.tree read.read) (λ t. refl)) refl, tt)
  by_operation command (Coarsen source) at =
      let read = coarsen_plan job planned command source (planned.plans command (Coarsen source) at) in
      (root_unit command (Coarsen source) (one entry) at refl (side (Coarsen source) source (read_some Form.Reconstructed source read.tree read.read) (λ t. refl)) refl, tt)
  by_operation command (Compress source) at =
      let read = compress_plan job planned command source (planned.plans command (Compress source) at) in
      (root_unit command (Compress source) (one entry) at refl (side (Compress source) source (read_some Form.Reconstructed source read.tree read.read) (λ t. refl)) refl, tt)
  by_operation command (Reconstruct source) at =
      let read = reconstruct_plan job planned command source (planned.plans command (Reconstruct source) at) in
      (root_unit command (Reconstruct source) (one entry) at refl (side (Reconstruct source) source (read_some Form.Compressed source read.tree read.read) (λ t. refl)) refl, tt)
  by_operation command (Add a left b right) at =
      let read = add_plan job planned command a left b right (planned.plans command (Add a left b right) at) in
      (root_unit command (Add a left b right) _ at refl (side (Add a left b right) left (read_some Form.Compressed left read.first read.read_first) (λ t. refl)) (side (Add a left b right) right (read_some Form.Compressed right read.second read.read_second) (λ t. refl)), tt)
  by_operation command (Mul left right) at =
      let read = mul_plan job planned command left right (planned.plans command (Mul left right) at) in
      (root_unit command (Mul left right) _ at refl (side (Mul left right) left (read_some Form.Reconstructed left read.first read.read_first) (λ t. refl)) (side (Mul left right) right (read_some Form.Reconstructed right read.second read.read_second) (λ t. refl)), tt)
  by_operation command (Inner left right) at =
      let read = inner_plan job planned command left right (planned.plans command (Inner left right) at) in
      (root_unit command (Inner left right) _ at refl (side (Inner left right) left (read_some Form.Compressed left read.first read.read_first) (λ t. refl)) (side (Inner left right) right (read_some Form.Compressed right read.second read.read_second) (λ t. refl)), tt)
  by_operation command (Print source form name) at =
      let read = print_plan job planned command source form name (planned.plans command (Print source form name) at) in
      (root_unit command (Print source form name) (one entry) at refl (side (Print source form name) source (read_some (form_of form) source read.tree read.read) (λ t. refl)) refl, tt)
  by_operation command (Size source) at = counts_right command source 0 job.ranks at (omega arith)
  by_operation command Fence at = tt

  started : (command : ℕ) (o : Option Operation) → operation_at job.operations command ≡ o → Right (starts_if command job.ranks o)
  started command None at = tt
  started command (Some operation) at = by_operation command operation at

pub starts_right : StartsAreRight
starts_right job command planned = started job planned command (operation_at job.operations command) refl
