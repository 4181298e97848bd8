-- What ties the steps of an application to the units as plain data: each step decides for one of the actions.
use Rattle.std.specs.Prelude.{◌≡◌, ℕ, ◌≤◌, Bool, true, List, Some}
use Rattle.app_core.specs.declared.label.Label.{Label}
use Rattle.app_core.specs.declared.outline.Outline.{Outline}
use Rattle.haar_units.specs.Jobs.{Operation, DistributedJob, operation_at}
use Rattle.haar_units.specs.Actions.{Action, Allowed, part_of, fits, outlines_of}
use Rattle.haar_units.specs.Traversals.{Traversal, action_at, is_spawned, MayIsPlanned}
use Rattle.haar_units.specs.Laws.{MayIsAllowed}

-- on all inputs that fit, a unit decides for an action of its command and part, and its effects have the outlines of this action;
-- on right inputs a unit that is spawned for a sound command decides for the planned action
pub record IsDecided (job : DistributedJob) (traversal : Traversal) (sound : ℕ → Bool) {U G : Type 0} (name : U → Label) (is_unit : U → Type 0) (suits right : U → G → Type 0) (step : U → G → List Outline)
    (operation : U → Operation) (decide : U → G → Action) : Type 0 where
  pub operations : (u : U) → is_unit u → operation_at job (name u).command ≡ Some (operation u)
  pub keys : (u : U) → is_unit u → (name u).part ≤ 2 → 1 ≤ (name u).place
  pub actions : (u : U) (g : G) → is_unit u → suits u g → (fits (operation u) (decide u g) ≡ true) × ((name u).part ≡ part_of (decide u g))
  pub steps : (u : U) (g : G) → is_unit u → suits u g → step u g ≡ outlines_of job (operation u) (decide u g) (name u).command (name u).place
  pub right_suits : (u : U) (g : G) → right u g → suits u g
  pub exact : (u : U) (g : G) → is_unit u → right u g → sound (name u).command ≡ true → is_spawned job traversal (name u) ≡ true → decide u g ≡ action_at traversal (name u)

-- what a unit may do is done by the step of a unit with its label, on right inputs
abbrev pub IsByAStep : {U G : Type 0} → (Label → List Outline → Type 0) → (U → Label) → (U → Type 0) → (U → G → Type 0) → (U → G → List Outline) → Type 0
IsByAStep {U} {G} may name is_unit right step = (p : Label) (os : List Outline) → may p os → (u : U) × (g : G) × is_unit u × (name u ≡ p) × right u g × (os ≡ step u g)

-- then a step does what its label allows, and what is planned if its command is sound
abbrev pub DecidedStepsAreAllowed : {U G : Type 0} → (Label → List Outline → Type 0) → (U → Label) → (U → Type 0) → (suits right : U → G → Type 0) → (U → G → List Outline) → Type 0
DecidedStepsAreAllowed {U} {G} may name is_unit suits right step =
    (job : DistributedJob) (traversal : Traversal) (sound : ℕ → Bool) (operation : U → Operation) (decide : U → G → Action)
    → IsDecided job traversal sound name is_unit suits right step operation decide
    → ((u : U) (g : G) → is_unit u → suits u g → Allowed job (name u) (step u g))
    × MayIsAllowed job may
    × ((command : ℕ) → sound command ≡ true → MayIsPlanned job traversal may command)

-- at a number of ranks that the application isn't made for, the first of these holds too
abbrev pub DecidedStepsAreAllowedAnywhere : {U G : Type 0} → (U → Label) → (U → Type 0) → (U → G → Type 0) → (U → G → List Outline) → Type 0
DecidedStepsAreAllowedAnywhere {U} {G} name is_unit suits step =
    (job : DistributedJob) (operation : U → Operation) (decide : U → G → Action)
    → ((u : U) → is_unit u → operation_at job (name u).command ≡ Some (operation u))
    → ((u : U) → is_unit u → (name u).part ≤ 2 → 1 ≤ (name u).place)
    → ((u : U) (g : G) → is_unit u → suits u g → (fits (operation u) (decide u g) ≡ true) × ((name u).part ≡ part_of (decide u g)))
    → ((u : U) (g : G) → is_unit u → suits u g → step u g ≡ outlines_of job (operation u) (decide u g) (name u).command (name u).place)
    → (u : U) (g : G) → is_unit u → suits u g → Allowed job (name u) (step u g)
