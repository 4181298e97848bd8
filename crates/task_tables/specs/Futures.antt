-- The futures of a table.
use Rattle.std.specs.Prelude.{◌≡◌, Bool, cond, List, [], Option, None, Some, IfSome, ⊤}
use Rattle.std.specs.Map.{lookup}
use Rattle.app_core.specs.declared.label.Label.{Label}
use Rattle.event_lists.specs.declared.future.Future.{Future}
use Rattle.event_lists.specs.contracts.future.FuturePartialEq.TheImpl as future_eq
use Rattle.future_cell.specs.declared.callback.Callback.{Callback}
use Rattle.task_tables.specs.declared.future_state.FutureState.{FutureState}
use Rattle.task_tables.specs.declared.future_state.FutureState.TheVariants.{Given, Waiting}

-- whether two futures are equal, as `==` says
abbrev pub same_future : Future → Future → Bool
same_future f g = future_eq.ghosts.eq f g

module _ {V : Type 0} where
  -- what a table has of a future, if it knows the future
  abbrev pub state_of : List (Future × FutureState V) → Future → Option (FutureState V)
  state_of futures future = lookup (same_future future) futures

  -- its value, if it has one, and the callbacks that wait for it
  abbrev pub value_of : Option (FutureState V) → Option V
  value_of None = None
  value_of (Some (Given value)) = value
  value_of (Some (Waiting callbacks)) = None

  abbrev pub callbacks_of : Option (FutureState V) → List Callback
  callbacks_of None = []
  callbacks_of (Some (Given value)) = []
  callbacks_of (Some (Waiting callbacks)) = callbacks

  -- the second table has this of the future, and of all others what the first has
  abbrev pub HasInPlace : List (Future × FutureState V) → List (Future × FutureState V) → Future → Option (FutureState V) → Type 0
  HasInPlace old new future state = (other : Future) → state_of new other ≡ cond (same_future future other) state (state_of old other)

  -- the second table has of each future what the first has
  abbrev pub HasTheSame : List (Future × FutureState V) → List (Future × FutureState V) → Type 0
  HasTheSame old new = (other : Future) → state_of new other ≡ state_of old other

  -- a value that was given is right for the label
  abbrev pub IsRightState : (Label → V → Type 0) → Label → FutureState V → Type 0
  IsRightState right label (Given value) = IfSome value (λ v. right label v)
  IsRightState right label (Waiting callbacks) = ⊤

  -- each value that was given is right for the label of its future
  abbrev pub AreRightStates : (Label → V → Type 0) → List (Future × FutureState V) → Type 0
  AreRightStates right futures = (future : Future) → IfSome (state_of futures future) (λ state. IsRightState right future.label state)
