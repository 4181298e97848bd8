-- The lanes that a run begins with, what lanes it is closed with, and what their events are in a book.
use Rattle.std.specs.Prelude.{◌≡◌, ℕ, zero, suc, Bool, true, false, if◌then◌else◌, List, [], ◌∷◌, ◌++◌, map, All, None}
use Rattle.event_lists.specs.declared.lane.LaneName.{LaneName}
use Rattle.event_books.specs.Books.{PartData, part_with, lanes_from, lanes_in_order}
use Rattle.world_rule.specs.declared.view.OwnPart.{OwnPart}
use Rattle.world_rule.specs.Views.{own_part, no_looks}
use Rattle.world_words.specs.Lanes.{WordsView, LaneView}

abbrev pub name_of : LaneView → LaneName
name_of v = v.name

-- the lanes of all ranks, one after the other
abbrev pub all_of : List (List LaneView) → List LaneView
all_of [] = []
all_of (vs ∷ rest) = vs ++ all_of rest

-- the parts of these lanes, as a seat has them
abbrev pub own_parts : List LaneView → List OwnPart
own_parts [] = []
own_parts (v ∷ vs) = own_part v.name v.mine ∷ own_parts vs

-- the events that a lane kept, as a part of a book; and those of several lanes
abbrev pub kept_part : LaneView → List PartData
kept_part v = if v.kept then part_with v.name v.mine else []

abbrev pub kept_parts : List LaneView → List PartData
kept_parts [] = []
kept_parts (v ∷ vs) = kept_part v ++ kept_parts vs

-- a lane of these words, which owes nothing, and has no task that was begun
pub record IsFree {A : Type 0} (words : WordsView A) (v : LaneView) : Type 0 where
  pub table : v.table ≡ words.table
  pub owes : v.owes ≡ None
  pub progress : v.progress ≡ None
  pub kept : v.kept ≡ words.trace

-- the lanes of the hands by rank and number, and those of the bins, are all lanes of these words
pub record AreAllLanes {A : Type 0} (words : WordsView A) (hands bins : List (List LaneView)) : Type 0 where
  pub names : map name_of (all_of hands ++ all_of bins) ≡ lanes_in_order words.ranks words.workers
  pub free : All (IsFree words) (all_of hands ++ all_of bins)

-- a lane before any event; and those of the hands or bins of ranks, from r on
abbrev pub new_lane : {A : Type 0} → WordsView A → LaneName → LaneView
new_lane words l = record {
  table = words.table;
  name = l;
  mine = [];
  seen = [];
  owes = None;
  progress = None;
  set_stop = false;
  stop_looks = 0;
  saw_stop = false;
  ran_looks = no_looks;
  submitted_looks = no_looks;
  spare = 0;
  kept = words.trace;
}

abbrev pub new_ranks : {A : Type 0} → WordsView A → Bool → ℕ → ℕ → ℕ → List (List LaneView)
new_ranks words b each r zero = []
new_ranks words b each r (suc n) = map (new_lane words) (lanes_from b r 0 each) ∷ new_ranks words b each (suc r) n
