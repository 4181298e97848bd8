-- What an event changes of a message or task.
use Rattle.std.specs.Prelude.{ℕ, true, Option, Some, None}
use Rattle.std.specs.Option.{option_or}
use Rattle.event_lists.specs.declared.event.Event.{Event}
use Rattle.event_lists.specs.declared.mark.Item.{Item}
use Rattle.event_lists.specs.Events.{makes, takes}
use Rattle.event_rules.specs.declared.values.Made.{Made}

-- the message or task that an event on a lane of this rank makes or takes
abbrev pub item_of : ℕ → Event → Option Item
item_of r e = option_or (makes r e) (takes e)

-- what was made, once it is taken
abbrev pub taken_once : Option Made → Option Made
taken_once None = None
taken_once (Some m) = Some (record { load = m.load; by = m.by; due = m.due; taken = true })
