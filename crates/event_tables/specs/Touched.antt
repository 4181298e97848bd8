-- Which keys of the tables an event changes.
use Rattle.std.specs.Prelude.{ℕ, Option, Some, None}
use Rattle.event_lists.specs.declared.lane.LaneName.{LaneName}
use Rattle.event_lists.specs.declared.kind.Kind.{Kind}
use Rattle.event_lists.specs.declared.kind.Kind.TheVariants.{Sends as sends, Handlings as handlings, Submissions as submissions, Runs as runs}
use Rattle.event_lists.specs.declared.event.Event.{Event}
use Rattle.event_lists.specs.declared.event.Event.TheVariants.{Sent, Handled, Submitted, Ran, Put, Erased, ReadSent, Receipt as Receives}
use Rattle.event_tables.specs.declared.keys.PassName.{PassName}
use Rattle.event_tables.specs.declared.keys.EntryName.{EntryName}

-- the kind that an event is counted as
abbrev pub kind_of : Event → Option Kind
kind_of (Sent n to p) = Some sends
kind_of (Handled n r m) = Some handlings
kind_of (Submitted n t) = Some submissions
kind_of (Ran n r t) = Some runs
kind_of _ = None

-- the entry that an event puts or erases
abbrev pub entry_of : LaneName → Event → Option EntryName
entry_of l (Put c) = Some (record { lane = l; name = c })
entry_of l (Erased c) = Some (record { lane = l; name = c })
entry_of l _ = None

-- the pass that an event completes
abbrev pub pass_of : LaneName → Event → Option PassName
pass_of l (ReadSent v f p) = Some (record { rank = l.rank; fence = f; pass = p })
pass_of l _ = None

-- the fence whose receipt an event is
abbrev pub received_of : Event → Option ℕ
received_of (Receives r) = Some r.fence
received_of _ = None
