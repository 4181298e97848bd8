-- Events and rooms for the examples.
use Rattle.std.specs.Prelude.{ℕ, replicate, None}
use Rattle.app_core.specs.declared.label.Label.{Label}
use Rattle.event_lists.specs.declared.event.Event.{Event}
use Rattle.event_lists.specs.declared.event.Event.TheVariants.{Sent, Submitted, Receipt as Receives}
use Rattle.event_lists.specs.declared.event.Parcel.TheVariants.{Give}
use Rattle.event_lists.specs.Rows.{no_row}
use Rattle.lane_trace.specs.declared.room.Room.{Room}

abbrev pub label : Label
label = record { command = 1; part = 2; place = 3 }

abbrev pub gives : Event
gives = Sent 7 1 (Give label)

-- a task with so many needs
abbrev pub submits : ℕ → Event
submits needs = Submitted 7 (record { unit = label; needs = replicate needs label; due = None })

-- a receipt with so many rows
abbrev pub receives : ℕ → Event
receives count = Receives (record { fence = 1; pass = 2; rows = replicate count no_row })

abbrev pub room : ℕ → ℕ → ℕ → Room
room events needs rows = record { events = events; needs = needs; rows = rows }
