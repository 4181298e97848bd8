-- What holds of the units of commands on trees: the facts from which the laws on lists of events follow.
use Rattle.std.specs.Prelude.{◌≡◌, ℕ, ◌≤◌, ◌<◌, Bool, true, List, Some}
use Rattle.app_core.specs.declared.label.Label.{Label}
use Rattle.app_core.specs.declared.outline.Outline.{Outline}
use Rattle.app_core.specs.declared.outline.Outline.TheVariants as of
use Rattle.event_laws.specs.Trees.{LabelsAreTree, BringsUp, IsOnce, IsPlaced, ErasesWait}
use Rattle.event_laws.specs.Held.{fences_before}
use Rattle.event_laws.specs.Stages.{IsStaged, IsOfFence, AreUnits}
use Rattle.haar_units.specs.Jobs.{Operation, DistributedJob, operation_at, is_on_trees, kinds}
use Rattle.haar_units.specs.Units.{parent, creator, due, needs, home}
use Rattle.haar_units.specs.Starts.{program}
use Rattle.haar_units.specs.Actions.{Allowed}
use Rattle.haar_units.specs.Traversals.{Traversal, IsTraversal, MayIsPlanned, DoesPlan, plan, units}

-- a unit may do only what its label allows
abbrev pub MayIsAllowed : DistributedJob → (Label → List Outline → Type 0) → Type 0
MayIsAllowed job may = (p : Label) (os : List Outline) → may p os → Allowed job p os

-- whatever overflows:

-- a unit's label determines the label of its spawner, and no label is spawned twice
abbrev pub LabelsFormATree : (Label → List Outline → Type 0) → Type 0
LabelsFormATree may = (job : DistributedJob) → MayIsAllowed job may → LabelsAreTree (program job) may parent

-- a future's label determines its creator, and a unit's label its due
abbrev pub FuturesHaveOneCreator : (Label → List Outline → Type 0) → Type 0
FuturesHaveOneCreator may = (job : DistributedJob) → MayIsAllowed job may → BringsUp (program job) may creator due

-- a unit's label determines its home and its needs
abbrev pub UnitsArePlaced : (Label → List Outline → Type 0) → Type 0
UnitsArePlaced may = (job : DistributedJob) → MayIsAllowed job may → IsPlaced (program job) may (home job) (needs job)

-- in each run one unit puts an entry, and one erases it
abbrev pub EntriesArePutOnce : (Label → List Outline → Type 0) → Type 0
EntriesArePutOnce may = (job : DistributedJob) → MayIsAllowed job may → IsOnce may parent (λ c. of.Put c)

abbrev pub EntriesAreErasedOnce : (Label → List Outline → Type 0) → Type 0
EntriesAreErasedOnce may = (job : DistributedJob) → MayIsAllowed job may → IsOnce may parent (λ c. of.Erase c)

-- a unit that erases an entry comes after a unit that needs what is given after the put
abbrev pub ErasersWait : (Label → List Outline → Type 0) → Type 0
ErasersWait may = (job : DistributedJob) → MayIsAllowed job may → ErasesWait may parent (home job) (needs job)

-- how many fences come before a unit's command
abbrev pub stage : DistributedJob → Label → ℕ
stage job u = fences_before u.command (kinds job)

-- a unit is spawned after just so many fences
abbrev pub LabelsTellTheFences : (Label → List Outline → Type 0) → Type 0
LabelsTellTheFences may = (job : DistributedJob) → MayIsAllowed job may → IsStaged (program job) may (stage job)

-- for commands of a kind, all of them before a fence: their units are before it, with all spawners
abbrev pub CommandsAreBeforeTheFence : (Label → List Outline → Type 0) → Type 0
CommandsAreBeforeTheFence may =
    (job : DistributedJob) → MayIsAllowed job may
    → (kind : ℕ → Bool) (fence : ℕ) → ((command : ℕ) → kind command ≡ true → fences_before command (kinds job) < fence)
    → IsOfFence may (stage job) fence (λ u. kind u.command ≡ true)

-- for commands of a kind whose units do only what is planned: just the planned units are spawned, each at its home
abbrev pub UnitsAreKnown : (Label → List Outline → Type 0) → Type 0
UnitsAreKnown may =
    (job : DistributedJob) → MayIsAllowed job may → (traversal : Traversal) (kind : ℕ → Bool) (bound : ℕ) → job.ranks ≤ bound → 2 ≤ bound
    → ((command : ℕ) (operation : Operation) → kind command ≡ true → operation_at job command ≡ Some operation → is_on_trees operation ≡ true → IsTraversal job traversal bound command)
    → ((command : ℕ) → kind command ≡ true → MayIsPlanned job traversal may command)
    → AreUnits (program job) may (λ u. kind u.command ≡ true) (plan job traversal) (home job) (units job traversal kind bound)

-- what is planned is allowed, if each command visits a shape: so the premises above are met
abbrev pub PlansAreAllowed : Type 0
PlansAreAllowed =
    (job : DistributedJob) (traversal : Traversal) (bound : ℕ)
    → ((command : ℕ) (operation : Operation) → operation_at job command ≡ Some operation → is_on_trees operation ≡ true → IsTraversal job traversal bound command)
    → MayIsAllowed job (DoesPlan job traversal) × ((command : ℕ) → MayIsPlanned job traversal (DoesPlan job traversal) command)
