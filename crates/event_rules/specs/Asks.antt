-- What an event on a hand's lane asks of the list before it.
use Rattle.std.specs.Prelude.{ℕ, List}
use Rattle.event_lists.specs.declared.lane.LaneName.{LaneName}
use Rattle.event_lists.specs.declared.event.Event.{Event}
use Rattle.event_lists.specs.declared.mark.Mark.{Mark}
use Rattle.event_lists.specs.Events.{part}
use Rattle.event_lists.specs.Counting.{Counting}
use Rattle.event_lists.specs.Dues.{Dues}
use Rattle.event_lists.specs.Fences.{Fences}

-- its numbers and what is in hand, its dues and needs, and its fences are right
abbrev pub Asks : ℕ → List Mark → LaneName → Event → Type 0
Asks ranks log l e = Counting ranks log l (part l log) e × Dues log l (part l log) e × Fences ranks log l (part l log) e
