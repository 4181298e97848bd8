-- What giving a future its value came to.
use Rattle.std.specs.Prelude.{◌≡◌, List, [], ◌∷◌, ◌++◌, Option, None, Some, IsSome}
use Rattle.future_cell.specs.declared.callback.Callback.{Callback}
use Rattle.event_lists.specs.declared.future.Future.{Future}
use Rattle.task_tables.specs.declared.future_state.FutureState.{FutureState}
use Rattle.task_tables.specs.declared.future_state.FutureState.TheVariants as state
use Rattle.task_tables.specs.declared.future_table.Given.{Given}
use Rattle.task_tables.specs.declared.future_table.Given.TheVariants.{Stored, Awaited}
use Rattle.task_tables.specs.declared.future_table.GiveError.{GiveError}
use Rattle.task_tables.specs.declared.future_table.GiveError.TheVariants.{Already, OutOfMemory}
use Rattle.task_tables.specs.declared.future_table.Asked.{Asked}
use Rattle.task_tables.specs.declared.future_table.Asked.TheVariants.{Unknown, Waits, Found}
use Rattle.task_tables.specs.declared.future_table.Known.{Known}
use Rattle.task_tables.specs.declared.future_table.Known.TheVariants.{Nothing, Value, Callbacks}
use Rattle.task_tables.specs.Futures.{HasInPlace, HasTheSame, value_of, callbacks_of}

module _ {V : Type 0} where
  -- stored: nothing was known of the future, and the table has the value; awaited: the callbacks that waited and the
  -- value come out, and the table knows the future no more
  abbrev pub IsGiven : List (Future × FutureState V) → List (Future × FutureState V) → Future → Option (FutureState V) → V → Given V → Type 0
  IsGiven old new future before value Stored = (before ≡ None) × HasInPlace old new future (Some (state.Given (Some value)))
  IsGiven old new future before value (Awaited back callbacks) = (back ≡ value) × (before ≡ Some (state.Waiting callbacks)) × HasInPlace old new future None

  -- the value that a refusal hands back
  abbrev pub refused_value : GiveError V → V
  refused_value (Already value) = value
  refused_value (OutOfMemory value) = value

  -- it says that the future has a value
  abbrev pub IsAlready : GiveError V → Type 0
  IsAlready (Already value) = Unit {0}
  IsAlready (OutOfMemory value) = ⊥

  -- what asking for a value came to: nothing was known; the callback waits after those before; or there was a value
  abbrev pub IsAsked : List (Future × FutureState V) → List (Future × FutureState V) → Future → Option (FutureState V) → Callback → Asked V → Type 0
  IsAsked old new future before callback Unknown = (before ≡ None) × HasTheSame old new
  IsAsked old new future before callback Waits = (value_of before ≡ None) × HasInPlace old new future (Some (state.Waiting (callbacks_of before ++ callback ∷ [])))
  IsAsked old new future before callback (Found value) = (value_of before ≡ Some value) × HasInPlace old new future before

  -- whether a future is known, and whether it has a value
  abbrev pub IsKnown : Option (FutureState V) → Known → Type 0
  IsKnown before Nothing = before ≡ None
  IsKnown before Value = IsSome (value_of before)
  IsKnown before Callbacks = (value_of before ≡ None) × IsSome before
