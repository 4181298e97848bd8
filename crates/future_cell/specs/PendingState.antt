-- What waits for a future, and the refusals of what was to wait.
use Rattle.std.specs.Prelude.{List, Bool}
use Rattle.future_cell.specs.declared.callback.Callback.{Callback}
use Rattle.future_cell.specs.declared.pending.NotAdded.{NotAdded}
use Rattle.future_cell.specs.declared.pending.NotAdded.TheVariants.{Assigned, OutOfMemory}

-- the callbacks that were added, in order, and whether no more are taken
pub record PendingState : Type 0 where
  pub callbacks : List Callback
  pub closed : Bool

-- the callback that a refusal hands back
abbrev pub refused_callback : NotAdded → Callback
refused_callback (Assigned callback) = callback
refused_callback (OutOfMemory callback) = callback
