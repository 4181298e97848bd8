-- What the tables of a list keep of its events, together.
use Rattle.std.specs.Prelude.{◌≡◌, ◌==◌, ℕ, ◌≤◌, true, List, length, Some}
use Rattle.event_lists.specs.declared.lane.LaneName.{LaneName}
use Rattle.event_lists.specs.declared.kind.Kind.{Kind}
use Rattle.event_lists.specs.declared.event.Event.{Event}
use Rattle.event_lists.specs.declared.future.Bringer.{Bringer}
use Rattle.event_lists.specs.declared.future.Future.{Future}
use Rattle.event_lists.specs.declared.mark.Item.{Item}
use Rattle.event_lists.specs.declared.mark.Mark.{Mark}
use Rattle.event_lists.specs.Events.{same_lane, same_item}
use Rattle.event_lists.specs.Futures.{same_bringer, same_future}
use Rattle.event_lists.specs.Legal.{Legal}
use Rattle.event_rules.specs.declared.values.LaneState.{LaneState}
use Rattle.event_rules.specs.Listed.{AreInRange}
use Rattle.event_tables.specs.declared.keys.PassName.{PassName}
use Rattle.event_tables.specs.declared.keys.EntryName.{EntryName}
use Rattle.event_tables.specs.declared.keys.CountName.{CountName}
use Rattle.event_tables.specs.declared.indexes.Indexes.{Indexes}
use Rattle.event_tables.specs.Keys.{same_pass, same_entry, same_count}
use Rattle.event_tables.specs.Tables.{value_at, has_place}
use Rattle.event_tables.specs.Contents.{max_events, KeepsLanes, KeepsItems, KeepsFutures, KeepsCounts, KeepsRows, KeepsReceipts, KeepsPuts}
use Rattle.event_tables.specs.Lacking.{KeepsLacks, HasSpawner}
use Rattle.event_tables.specs.Futures.{HasRoomFor}
use Rattle.event_tables.specs.Items.{item_of}
use Rattle.event_tables.specs.Touched.{kind_of, entry_of, pass_of, received_of}

-- each table keeps what it is for
pub record Keeps (log : List Mark) (t : Indexes) : Type 0 where
  pub lanes : KeepsLanes log t.lanes
  pub items : KeepsItems log t.items
  pub futures : KeepsFutures log t.futures
  pub lacking : KeepsLacks log t.lacking
  pub counts : KeepsCounts log t.counts
  pub rows : KeepsRows log t.rows
  pub receipts : KeepsReceipts log t.receipts
  pub puts : KeepsPuts log t.puts

-- a legal list, not too long, with its tables
pub record IsKept (ranks workers : ℕ) (log : List Mark) (t : Indexes) : Type 0 where
  pub range : AreInRange ranks workers
  pub legal : Legal ranks workers log
  pub within : length log ≤ max_events
  pub keeps : Keeps log t

-- no value changed
pub record HasSameValues (s t : Indexes) : Type 0 where
  pub lanes : (l : LaneName) → value_at same_lane t.lanes l ≡ value_at same_lane s.lanes l
  pub items : (c : Item) → value_at same_item t.items c ≡ value_at same_item s.items c
  pub futures : (f : Future) → value_at same_future t.futures f ≡ value_at same_future s.futures f
  pub lacking : (b : Bringer) → value_at same_bringer t.lacking b ≡ value_at same_bringer s.lacking b
  pub counts : (c : CountName) → value_at same_count t.counts c ≡ value_at same_count s.counts c
  pub rows : (p : PassName) → value_at same_pass t.rows p ≡ value_at same_pass s.rows p
  pub receipts : (f : ℕ) → value_at (λ a b. a == b) t.receipts f ≡ value_at (λ a b. a == b) s.receipts f
  pub puts : (e : EntryName) → value_at same_entry t.puts e ≡ value_at same_entry s.puts e

-- there is room to note an event on a lane in this state
pub record HasRoom (t : Indexes) (s : LaneState) (l : LaneName) (e : Event) : Type 0 where
  pub lanes : has_place same_lane t.lanes l ≡ true
  pub items : (c : Item) → item_of l.rank e ≡ Some c → has_place same_item t.items c ≡ true
  pub futures : HasRoomFor t.futures l.rank s e
  pub lacking : HasSpawner t.lacking l.rank s e
  pub counts : (k : Kind) → kind_of e ≡ Some k → has_place same_count t.counts (record { rank = l.rank; kind = k }) ≡ true
  pub rows : (p : PassName) → pass_of l e ≡ Some p → has_place same_pass t.rows p ≡ true
  pub receipts : (f : ℕ) → received_of e ≡ Some f → has_place (λ a b. a == b) t.receipts f ≡ true
  pub puts : (x : EntryName) → entry_of l e ≡ Some x → has_place same_entry t.puts x ≡ true
