-- What the tables of a list keep of its events.
use Rattle.std.specs.Prelude.{◌≡◌, ℕ, ◌^◌, Bool, not, List, [], ◌∷◌, ◌++◌, ◌==◌, if◌then◌else◌, Option, count_by}
use Rattle.app_core.specs.declared.label.Label.{Label}
use Rattle.event_lists.specs.declared.lane.LaneName.{LaneName}
use Rattle.event_lists.specs.declared.receipt.Row.{Row}
use Rattle.event_lists.specs.declared.future.Bringer.{Bringer}
use Rattle.event_lists.specs.declared.future.Future.{Future}
use Rattle.event_lists.specs.declared.mark.Item.{Item}
use Rattle.event_lists.specs.declared.mark.Mark.{Mark}
use Rattle.event_lists.specs.Events.{part, main_of, count, in_hand, same_lane, same_item}
use Rattle.event_lists.specs.Futures.{same_bringer, same_future, bringer, is_bringer, spawned_needs, was_due}
use Rattle.event_lists.specs.Fences.{row_of, has_receipt}
use Rattle.event_lists.specs.Bins.{is_put}
use Rattle.event_rules.specs.declared.values.LaneState.{LaneState}
use Rattle.event_rules.specs.declared.values.Made.{Made}
use Rattle.event_rules.specs.declared.values.Found.{Found}
use Rattle.event_rules.specs.Shown.{ShowsLane, ShowsItem, ShowsFuture}
use Rattle.event_tables.specs.declared.keys.PassName.{PassName}
use Rattle.event_tables.specs.declared.keys.EntryName.{EntryName}
use Rattle.event_tables.specs.declared.keys.CountName.{CountName}
use Rattle.event_tables.specs.declared.table.Table.{Table}
use Rattle.event_tables.specs.Keys.{same_pass, same_entry, same_count}
use Rattle.event_tables.specs.Tables.{value_at}

-- how many events a list may have
abbrev pub max_events : ℕ
max_events = 2 ^ 48

abbrev pub KeepsLanes : List Mark → Table LaneName LaneState → Type 0
KeepsLanes log t = (l : LaneName) → ShowsLane log l (value_at same_lane t l)

abbrev pub KeepsItems : List Mark → Table Item (Option Made) → Type 0
KeepsItems log t = (c : Item) → ShowsItem log c (value_at same_item t c)

abbrev pub KeepsFutures : List Mark → Table Future Found → Type 0
KeepsFutures log t = (f : Future) → ShowsFuture log f (value_at same_future t f)

-- the labels that the spawns of this bringer needed
abbrev pub needed_by : Bringer → List Mark → List Label
needed_by b [] = []
needed_by b (x ∷ log) = if is_bringer b (bringer x.lane.rank (in_hand (part x.lane log))) then spawned_needs x.event ++ needed_by b log else needed_by b log

-- how many of them aren't the due of a spawn of this bringer
abbrev pub lacking : Bringer → List Mark → ℕ
lacking b log = count_by (λ d. not (was_due b d log)) (needed_by b log)

abbrev pub KeepsLacking : List Mark → Table Bringer ℕ → Type 0
KeepsLacking log t = (b : Bringer) → value_at same_bringer t b ≡ lacking b log

abbrev pub KeepsCounts : List Mark → Table CountName ℕ → Type 0
KeepsCounts log t = (c : CountName) → value_at same_count t c ≡ count c.kind c.rank log

abbrev pub KeepsRows : List Mark → Table PassName (Option Row) → Type 0
KeepsRows log t = (p : PassName) → value_at same_pass t p ≡ row_of p.fence p.pass (part (main_of p.rank) log)

abbrev pub KeepsReceipts : List Mark → Table ℕ Bool → Type 0
KeepsReceipts log t = (f : ℕ) → value_at (λ a b. a == b) t f ≡ has_receipt f log

abbrev pub KeepsPuts : List Mark → Table EntryName Bool → Type 0
KeepsPuts log t = (e : EntryName) → value_at same_entry t e ≡ is_put e.name (part e.lane log)
