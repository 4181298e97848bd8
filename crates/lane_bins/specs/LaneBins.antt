-- What contracts see of a bin with its lane, and what its type keeps.
use Rattle.std.specs.Prelude.{◌≡◌, ℕ, true, List, [], Option, None, Contains, IfSome, is_some, refl}
use Rattle.std.specs.List.{AllByRecursion}
use Rattle.std.specs.Coded.{Coded, code_by, coded×}
use Rattle.std.specs.FinMap as fin
use Rattle.app_core.specs.declared.CellName.{CellName}
use Rattle.event_lists.specs.declared.lane.LaneName.{LaneName}
use Rattle.event_lists.specs.declared.event.Event.{Event}
use Rattle.event_lists.specs.Events.{in_hand}
use Rattle.event_lists.specs.Bins.{is_put}
use Rattle.event_laws.specs.Follows.{bin_of}
use Rattle.container.specs.declared.look_ups.LookUp.{LookUp}
use Rattle.container.specs.Names.{name_cmp}
use Rattle.container.specs.BinState.{BinData}
use Rattle.container.specs.RightBins.{AreRight}
use Rattle.world_words.specs.Lanes.{WordsView, LaneView}
use Rattle.world_words.specs.Closing.{IsFree}

-- a bin's entries and look-ups, and its lane
pub record LaneBinData (C : Type 0) : Type 0 where
  pub state : BinData C
  pub lane : LaneView

abbrev pub lane_bin_code : {C : Type 0} → Coded (BinData C) → Coded LaneView → Coded (LaneBinData C)
lane_bin_code {C} state lane = code_by (BinData C × LaneView) (coded× state lane) (λ b. (b.state, b.lane)) (λ p. record { state = p.0; lane = p.1 }) (λ _. refl)

-- the entry lies in the bin of this lane
abbrev pub IsOfBin : LaneName → CellName → Type 0
IsOfBin lane name = lane ≡ bin_of lane.rank name

-- the entries are just those that were put and not erased by these events, the newest first
abbrev pub HasWhatWasPut : {C : Type 0} → fin.FinMap name_cmp C → List Event → Type 0
HasWhatWasPut entries mine = (name : CellName) → is_some (fin.get entries name) ≡ is_put name mine

-- some unit of the application, whose home is this rank, reads the entry
abbrev pub IsReadAt : {U : Type 0} → (U → Type 0) → (U → List CellName) → (U → ℕ) → ℕ → CellName → Type 0
IsReadAt {U} is_unit reads_of home_of rank name = (unit : U) × is_unit unit × Contains (reads_of unit) name × (home_of unit ≡ rank)

-- units at this rank read the entries that are waited for
abbrev pub AreReadAt : {U : Type 0} → (U → Type 0) → (U → List CellName) → (U → ℕ) → ℕ → List LookUp → Type 0
AreReadAt is_unit reads_of home_of rank waiting = AllByRecursion (λ l. IsReadAt is_unit reads_of home_of rank l.name) waiting

-- the entries that are waited for lie in the bin of this lane
abbrev pub AreOfBin : LaneName → List LookUp → Type 0
AreOfBin lane waiting = AllByRecursion (λ l. IsOfBin lane l.name) waiting

-- the lane of a bin, one of these words, with nothing in hand; it owes nothing and has no task
pub record IsBinLane {A : Type 0} (words : Option (WordsView A)) (lane : LaneView) : Type 0 where
  pub bin : lane.name.bin ≡ true
  pub hand : in_hand lane.mine ≡ None
  pub free : IfSome words (λ w. IsFree w lane)

-- the same, before any event
pub record IsNewBinLane {A : Type 0} (words : Option (WordsView A)) (lane : LaneView) : Type 0 where
  pub bin : lane.name.bin ≡ true
  pub new : lane.mine ≡ []
  pub free : IfSome words (λ w. IsFree w lane)

-- a bin of the application: the entries are those of the lane, and right for their names; what is waited for lies in the
-- bin, and units of the application at the rank of the lane read it
pub record IsLaneBin {A U C : Type 0} (app : Option A) (words : Option (WordsView A)) (right_cell : A → CellName → C → Type 0) (is_unit : A → U → Type 0) (reads_of : A → U → List CellName) (home_of : A → U → ℕ) (bin : LaneBinData C) : Type 0 where
  pub put : HasWhatWasPut bin.state.entries bin.lane.mine
  pub right : IfSome app (λ a. AreRight (right_cell a) bin.state.entries)
  pub read : IfSome app (λ a. AreReadAt (is_unit a) (reads_of a) (home_of a) bin.lane.name.rank bin.state.waiting)
  pub here : AreOfBin bin.lane.name bin.state.waiting
  pub lane : IsBinLane words bin.lane
