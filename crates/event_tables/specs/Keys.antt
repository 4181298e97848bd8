-- When keys of tables are one.
use Rattle.std.specs.Prelude.{Bool, true, false, ◌&&◌, ◌==◌}
use Rattle.event_lists.specs.declared.kind.Kind.{Kind}
use Rattle.event_lists.specs.declared.kind.Kind.TheVariants.{Sends as sends, Handlings as handlings, Submissions as submissions, Runs as runs}
use Rattle.event_lists.specs.Events.{same_lane}
use Rattle.event_lists.specs.Bins.{same_name}
use Rattle.event_tables.specs.declared.keys.PassName.{PassName}
use Rattle.event_tables.specs.declared.keys.EntryName.{EntryName}
use Rattle.event_tables.specs.declared.keys.CountName.{CountName}

abbrev pub same_pass : PassName → PassName → Bool
same_pass a b = (a.rank == b.rank) && ((a.fence == b.fence) && (a.pass == b.pass))

abbrev pub same_entry : EntryName → EntryName → Bool
same_entry a b = same_lane a.lane b.lane && same_name a.name b.name

abbrev pub same_kind : Kind → Kind → Bool
same_kind sends sends = true
same_kind handlings handlings = true
same_kind submissions submissions = true
same_kind runs runs = true
same_kind _ _ = false

abbrev pub same_count : CountName → CountName → Bool
same_count a b = (a.rank == b.rank) && same_kind a.kind b.kind
