-- Who spawns with an event.
use Rattle.std.specs.Prelude.{ℕ, Bool, true, false, Option, None, if◌then◌else◌}
use Rattle.event_lists.specs.declared.event.Event.{Event}
use Rattle.event_lists.specs.declared.event.Event.TheVariants.{Sent, Submitted}
use Rattle.event_lists.specs.declared.event.Parcel.TheVariants.{Unit as Spawned}
use Rattle.event_lists.specs.declared.future.Bringer.{Bringer}
use Rattle.event_lists.specs.declared.mark.Item.{Item}
use Rattle.event_lists.specs.Futures.{bringer}

-- whether an event sends a unit or submits one
abbrev pub is_spawn : Event → Bool
is_spawn (Sent n to (Spawned u d)) = true
is_spawn (Submitted n t) = true
is_spawn _ = false

-- who spawns with an event, on a lane of this rank with this in hand
abbrev pub spawner : ℕ → Option Item → Event → Option Bringer
spawner r h e = if is_spawn e then bringer r h else None
