-- Which units the commands before the first overflow spawn, and what these do: by the keys that each command visits, and those
-- that it erases.
use Rattle.std.specs.Prelude.{◌≡◌, ℕ, zero, suc, ◌+◌, ◌*◌, ◌<◌, ◌≤◌, Bool, true, false, ◌&&◌, ◌==◌, nat_lt, if◌then◌else◌, List, [], length, Option, Some, None}
use Rattle.app_core.specs.declared.label.Label.{Label}
use Rattle.app_core.specs.declared.outline.Outline.{Outline}
use Rattle.haar_units.specs.Jobs.{Operation, DistributedJob, operation_at, is_on_trees, is_size, is_coarsen}
use Rattle.haar_units.specs.Jobs.Operation.{Coarsen}
use Rattle.haar_units.specs.Actions.{Action, outlines_of}
use Rattle.haar_units.specs.Actions.Action.{Stop, Descend, Combine, Merge, Erase, Count, Sum}
use Rattle.haar_units.specs.LabelLists.{labels_that_pass}

-- for each command and place: whether the command visits the key, and whether it erases the key's entry
pub record Traversal : Type 0 where
  pub visits : ℕ → ℕ → Bool
  pub erases : ℕ → ℕ → Bool

-- the keys that a command visits are a shape with places below a bound; those that it erases are some of them, other than the
-- root, and both children of a key or none; only `coarsen` erases keys
pub record IsTraversal (job : DistributedJob) (traversal : Traversal) (bound : ℕ) (command : ℕ) : Type 0 where
  pub visits_below : (place : ℕ) → traversal.visits command place ≡ true → (1 ≤ place) × (place < bound)
  pub root : traversal.visits command 1 ≡ true
  pub parents : (place : ℕ) → traversal.visits command (2 * place) ≡ true → traversal.visits command place ≡ true
  pub children : (place : ℕ) → 1 ≤ place → traversal.visits command (2 * place + 1) ≡ traversal.visits command (2 * place)
  pub erases_in_coarsen : (place : ℕ) → traversal.erases command place ≡ true → operation_at job command ≡ Some Coarsen
  pub erases_visited : (place : ℕ) → traversal.erases command place ≡ true → (2 ≤ place) × (traversal.visits command place ≡ true)
  pub erases_both : (place : ℕ) → 1 ≤ place → traversal.erases command (2 * place + 1) ≡ traversal.erases command (2 * place)

-- what the unit with a label does
abbrev pub action_of : Traversal → ℕ → ℕ → ℕ → Action
action_of traversal command zero place = if traversal.visits command (2 * place) then Descend else Stop
action_of traversal command (suc zero) place = if traversal.erases command (2 * place) then Merge else Combine
action_of traversal command (suc (suc zero)) place = Erase
action_of traversal command (suc (suc (suc zero))) place = Count
action_of traversal command (suc (suc (suc (suc part)))) place = Sum

abbrev pub action_at : Traversal → Label → Action
action_at traversal u = action_of traversal u.command u.part u.place

abbrev pub plan_if : DistributedJob → Traversal → Label → Option Operation → List Outline
plan_if job traversal u None = []
plan_if job traversal u (Some operation) = outlines_of job operation (action_at traversal u) u.command u.place

-- its effects, as outlines
abbrev pub plan : DistributedJob → Traversal → Label → List Outline
plan job traversal u = plan_if job traversal u (operation_at job u.command)

-- whether the unit with a label is spawned, by its command's operation
abbrev pub is_spawned_of : DistributedJob → Traversal → Operation → ℕ → ℕ → ℕ → Bool
is_spawned_of job traversal operation command zero place = is_on_trees operation && traversal.visits command place
is_spawned_of job traversal operation command (suc zero) place = is_on_trees operation && (traversal.visits command place && traversal.visits command (2 * place))
is_spawned_of job traversal operation command (suc (suc zero)) place = is_coarsen operation && traversal.erases command place
is_spawned_of job traversal operation command (suc (suc (suc zero))) place = is_size operation && nat_lt place job.ranks
is_spawned_of job traversal operation command (suc (suc (suc (suc zero)))) place = is_size operation && (place == 1)
is_spawned_of job traversal operation command (suc (suc (suc (suc (suc part))))) place = false

abbrev pub is_spawned_if : DistributedJob → Traversal → Label → Option Operation → Bool
is_spawned_if job traversal u None = false
is_spawned_if job traversal u (Some operation) = is_spawned_of job traversal operation u.command u.part u.place

abbrev pub is_spawned : DistributedJob → Traversal → Label → Bool
is_spawned job traversal u = is_spawned_if job traversal u (operation_at job u.command)

-- each unit of the command that is spawned may do only what is planned
abbrev pub MayIsPlanned : DistributedJob → Traversal → (Label → List Outline → Type 0) → ℕ → Type 0
MayIsPlanned job traversal may command = (p : Label) (os : List Outline) → p.command ≡ command → is_spawned job traversal p ≡ true → may p os → os ≡ plan job traversal p

-- a unit that is spawned does just what is planned
abbrev pub DoesPlan : DistributedJob → Traversal → Label → List Outline → Type 0
DoesPlan job traversal p os = (is_spawned job traversal p ≡ true) × (os ≡ plan job traversal p)

-- the labels of the units that are spawned for the commands of a kind, with places below a bound
abbrev pub units : DistributedJob → Traversal → (ℕ → Bool) → ℕ → List Label
units job traversal of bound = labels_that_pass (λ u. of u.command && is_spawned job traversal u) (suc (length job.operations)) 5 bound
