-- Units of a job by their form, and what they decide for as plain data: an action of their command.
use Rattle.std.specs.Prelude.{◌≡◌, ℕ, ◌^◌, ◌<◌, ◌≤◌, true, List, Option, Some}
use Rattle.app_core.specs.Given.{Given}
use Rattle.app_core.specs.Commands.{IsRankCount}
use Rattle.app_core.specs.declared.Outline.{Outline}
use Rattle.app_core.specs.Outlines.{outlines}
use Rattle.tree_key.specs.Keys.{Key}
use Rattle.owner_map.specs.declared.OwnerMap.{OwnerMap}
use Rattle.haar_node.specs.declared.Node.{Node}
use Rattle.haar_units.specs.Jobs.{is_on_trees, is_coarsen, is_size}
use Rattle.haar_units.specs.Jobs.{Operation as Word}
use Rattle.haar_units.specs.Actions.{Action, Allowed}
use Rattle.haar_units.specs.Starts.{starts}
use Rattle.haar_base.specs.declared.unit.Unit.{Unit}
use Rattle.haar_base.specs.declared.unit.Unit.TheVariants.{Down, Up, Clear, Count, Total}
use Rattle.haar_base.specs.declared.value.Value.{Value}
use Rattle.haar_base.specs.declared.operation.Operation.{Operation}
use Rattle.haar_base.specs.declared.decisions.Visit.{Visit}
use Rattle.haar_base.specs.declared.decisions.Visit.TheVariants as visits
use Rattle.haar_base.specs.declared.decisions.Combination.{Combination}
use Rattle.haar_base.specs.declared.decisions.Combination.TheVariants as combinations
use Rattle.haar_base.specs.Operations.{operation_at, word_of}
use Rattle.haar_base.specs.Units.{label_of, due_of, home_of, kept_at, job_of}
use Rattle.haar_steps.specs.Effects.{HaarEffect}
use Rattle.haar_steps.specs.Starts.{starting_of}
use Rattle.haar_steps.specs.Steps.{step_of, visit_of, combination_of}

-- the command of this number does what is said, at a key down to a level
pub record IsAt (operations : List Operation) (is_one : Word → Type 0) (command level : ℕ) (key : Key) : Type 0 where
  pub operation : Operation
  pub at : operation_at operations command ≡ Some operation
  pub one : is_one (word_of operation)
  pub within : key.level ≤ level
  pub place : key.at < 2 ^ key.level

-- the command of this number is a `size`
pub record IsSizing (operations : List Operation) (command : ℕ) : Type 0 where
  pub operation : Operation
  pub at : operation_at operations command ≡ Some operation
  pub size : is_size (word_of operation) ≡ true

-- a unit of one of the commands, at a key of the depth or at one of the ranks
abbrev pub IsOfForm : ℕ → List Operation → ℕ → Unit → Type 0
IsOfForm depth operations ranks (Down u) = IsAt operations (λ word. is_on_trees word ≡ true) u.command depth u.key
IsOfForm depth operations ranks (Up u) = IsAt operations (λ word. is_on_trees word ≡ true) u.command depth u.key × (u.key.level < depth)
IsOfForm depth operations ranks (Clear command key) = IsAt operations (λ word. is_coarsen word ≡ true) command depth key
IsOfForm depth operations ranks (Count command rank) = IsSizing operations command × (rank < ranks)
IsOfForm depth operations ranks (Total command count) = IsSizing operations command × (count ≡ ranks)

-- what it decides for, as an action

abbrev pub visit_action : Visit → Action
visit_action (visits.Give _ _) = Action.Stop
visit_action (visits.Split _ _ _ _) = Action.Descend

abbrev pub combination_action : Combination → Action
combination_action (combinations.Give _ _) = Action.Combine
combination_action (combinations.Merge _) = Action.Merge

abbrev pub action_of : ℕ → List Operation → Unit → Given Value Node → Action
action_of depth operations (Down u) given = visit_action (visit_of depth operations u given.cells)
action_of depth operations (Up u) given = combination_action (combination_of depth operations u given.values)
action_of depth operations (Clear command key) given = Action.Erase
action_of depth operations (Count command rank) given = Action.Count
action_of depth operations (Total command count) given = Action.Sum

-- the outlines of effects, where there are so many ranks
abbrev pub told : OwnerMap → ℕ → List HaarEffect → List Outline
told owners ranks effects = outlines label_of due_of (home_of owners) (kept_at owners) ranks effects

-- on whatever inputs, a unit does what its label allows, at any number of ranks
abbrev pub StepsAreAllowed : Type 0
StepsAreAllowed =
    (depth : ℕ) (operations : List Operation) (owners : OwnerMap) (made ranks : ℕ) (u : Unit) (given : Given Value Node)
    → depth ≤ 16 → IsRankCount ranks → IsOfForm depth operations made u
    → Allowed (job_of operations owners ranks) (label_of u) (told owners ranks (step_of depth operations u given))

-- the starts of a command are those of its word
abbrev pub StartsAreTold : Type 0
StartsAreTold = (operations : List Operation) (owners : OwnerMap) (ranks command : ℕ) → IsRankCount ranks → told owners ranks (starting_of operations command ranks) ≡ starts (job_of operations owners ranks) command
