-- What is known of a main's lane between its steps, and of the rows that it knows.
use Rattle.std.specs.Prelude.{◌≡◌, ℕ, suc, ◌+◌, ◌<◌, false, List, [], Some, None, slice_get}
use Rattle.app_core.specs.declared.label.Label.{Label}
use Rattle.event_lists.specs.declared.event.Parcel.TheVariants.{Unit as Spawned}
use Rattle.event_lists.specs.declared.mark.Item.TheVariants.{Message, Task}
use Rattle.event_lists.specs.declared.kind.Reading.{Reading}
use Rattle.event_lists.specs.declared.receipt.Row.{Row}
use Rattle.event_lists.specs.declared.future.Bringer.TheVariants.{Main as main_at}
use Rattle.event_lists.specs.declared.mark.Mark.{Mark}
use Rattle.event_lists.specs.Events.{main_of, part, in_hand, IsSent, IsSubmitted}
use Rattle.event_lists.specs.Fences.{fence_in, enters, readings, passes, MayOpen, row_of, IsReady}
use Rattle.event_lists.specs.OwnEvents.{NeedsAreDuesOnLane, has_receipt_on_lane}
use Rattle.event_lists.specs.Legal.{Legal}
use Rattle.event_lists.specs.Futures.{needs_of}
use Rattle.event_laws.specs.Follows.{Wait, program_at, deeds}
use Rattle.world_rule.specs.declared.view.Pending.TheVariants.{Counted}
use Rattle.world_rule.specs.declared.view.Load.TheVariants.{OfMessage, OfTask}
use Rattle.world_rule.specs.Owing.{owed}
use Rattle.world_words.specs.Lanes.{WordsView, LaneView, CarrierView, task_name}

-- a main's lane between two turns. It is of these words, has nothing in hand and owes nothing, and sees a legal list that
-- has all of its own events. What its starts need are dues of its starts. It entered so many fences; no later fence has a
-- receipt on it
pub record IsMain {A : Type 0} (words : WordsView A) (entered : ℕ) (v : LaneView) : Type 0 where
  pub table : v.table ≡ words.table
  pub name : v.name ≡ main_of v.name.rank
  pub owes : v.owes ≡ None
  pub hand : in_hand v.mine ≡ None
  pub progress : v.progress ≡ None
  pub legal : Legal words.ranks words.workers v.seen
  pub own : part v.name v.seen ≡ v.mine
  pub needs : NeedsAreDuesOnLane v.name.rank (main_at v.name.rank) v.mine
  pub entries : enters v.mine ≡ entered
  pub receipts : (f : ℕ) → entered < f → has_receipt_on_lane f v.mine ≡ false

-- it left all fences that it entered
pub record IsOutside {A : Type 0} (words : WordsView A) (fences : ℕ) (v : LaneView) : Type 0 where
  pub main : IsMain words fences v
  pub outside : fence_in v.mine ≡ None

-- it is in this fence, with these readings in it
pub record IsReading {A : Type 0} (words : WordsView A) (fence : ℕ) (rs : List Reading) (v : LaneView) : Type 0 where
  pub main : IsMain words fence v
  pub inside : fence_in v.mine ≡ Some fence
  pub found : readings v.mine ≡ rs

-- and may open an attempt of this pass
pub record IsInside {A : Type 0} (words : WordsView A) (fence pass : ℕ) (v : LaneView) : Type 0 where
  pub rs : List Reading
  pub reading : IsReading words fence rs v
  pub next : pass ≡ suc (passes rs)
  pub may_open : MayOpen rs

-- the row of a rank in a pass of a fence
abbrev pub HasRow : ℕ → ℕ → ℕ → Row → List Mark → Type 0
HasRow fence pass rank row log = row_of fence pass (part (main_of rank) log) ≡ Some row

-- the rows of three ranks in a pass of a fence
pub record HasRows (fence pass : ℕ) (a b c : Row) (log : List Mark) : Type 0 where
  pub first : HasRow fence pass 0 a log
  pub second : HasRow fence pass 1 b log
  pub third : HasRow fence pass 2 c log

-- the mains of ranks 0 to 2, in this order, are in this fence, and may open an attempt of this pass
pub record AreReady {A : Type 0} (words : WordsView A) (fence pass : ℕ) (a b c : LaneView) : Type 0 where
  pub ranks : words.ranks ≡ 3
  pub names : (a.name.rank ≡ 0) × (b.name.rank ≡ 1) × (c.name.rank ≡ 2)
  pub inside : IsInside words fence pass a × IsInside words fence pass b × IsInside words fence pass c
  pub complete : IsReady 3 fence pass a.seen × IsReady 3 fence pass b.seen × IsReady 3 fence pass c.seen

-- they left all fences that they entered
pub record AreOutside {A : Type 0} (words : WordsView A) (fences : ℕ) (a b c : LaneView) : Type 0 where
  pub ranks : words.ranks ≡ 3
  pub names : (a.name.rank ≡ 0) × (b.name.rank ≡ 1) × (c.name.rank ≡ 2)
  pub outside : IsOutside words fences a × IsOutside words fences b × IsOutside words fences c

-- what each of the three mains does next is to wait in a fence
abbrev pub WaitsNext : {A : Type 0} → WordsView A → LaneView → Type 0
WaitsNext words v = slice_get (program_at v.name.rank words.program) (deeds v.mine) ≡ Some Wait

pub record WaitNext {A : Type 0} (words : WordsView A) (a b c : LaneView) : Type 0 where
  pub first : WaitsNext words a
  pub second : WaitsNext words b
  pub third : WaitsNext words c

-- each of the three mains did so much more of its program
pub record HaveDone (more : ℕ) (a b c x y z : LaneView) : Type 0 where
  pub first : deeds x.mine ≡ more + deeds a.mine
  pub second : deeds y.mine ≡ more + deeds b.mine
  pub third : deeds z.mine ≡ more + deeds c.mine

-- the carrier has a message for this rank, with a unit without a due
pub record BringsUnit {A : Type 0} (words : WordsView A) (to : ℕ) (unit : Label) (c : CarrierView) : Type 0 where
  pub rank : ℕ
  pub number : ℕ
  pub table : c.table ≡ words.table
  pub owes : c.owed ≡ owed (Counted (Message rank number)) to (OfMessage (Spawned unit None))
  pub sent : IsSent rank number to (Spawned unit None) c.seen

-- the carrier has a task of this rank, with a unit without a due and without needs
pub record BringsTask {A : Type 0} (words : WordsView A) (rank : ℕ) (unit : Label) (c : CarrierView) : Type 0 where
  pub number : ℕ
  pub table : c.table ≡ words.table
  pub owes : c.owed ≡ owed (Counted (Task rank number)) rank (OfTask (task_name unit [] None))
  pub submitted : IsSubmitted rank number (task_name unit [] None) c.seen
  pub needs : needs_of (Task rank number) c.seen ≡ []
