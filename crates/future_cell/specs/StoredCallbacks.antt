-- Callbacks as they are stored.
use Rattle.std.specs.Prelude.{◌<◌, List, [], ◌∷◌, length}
use Rattle.future_cell.specs.declared.callback.Callback.{Callback}
use Rattle.future_cell.specs.declared.callbacks.Stored.{Stored}
use Rattle.future_cell.specs.declared.callbacks.Stored.TheVariants.{Empty, One, More}

-- the callbacks, in order
abbrev pub callbacks_in : Stored → List Callback
callbacks_in Empty = []
callbacks_in (One callback) = callback ∷ []
callbacks_in (More callbacks) = callbacks.items

-- a vector is used only where there are callbacks
abbrev pub IsStored : Stored → Type 0
IsStored Empty = Unit {0}
IsStored (One callback) = Unit {0}
IsStored (More callbacks) = 0 < length callbacks.items
