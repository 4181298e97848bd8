-- A fence's state between two turns, what a turn asks of the lane, and what it leaves.
use Rattle.std.specs.Prelude.{◌≡◌, ◌⊎◌, ℕ, suc, ◌+◌, ◌*◌, ◌<◌, false, List, ◌∷◌, ◌++◌, length, Option, Some, None}
use Rattle.std.specs.List.{AllByRecursion}
use Rattle.event_lists.specs.declared.event.Event.{Event}
use Rattle.event_lists.specs.declared.event.Event.TheVariants.{ReadHandled, ReadRan, ReadSubmitted, ReadSent, Receipt as Receives}
use Rattle.event_lists.specs.declared.receipt.Row.{Row}
use Rattle.event_lists.specs.declared.receipt.Receipt.{Receipt}
use Rattle.event_lists.specs.declared.mark.Mark.{Mark}
use Rattle.event_lists.specs.Events.{main_of, part, Begins, in_hand}
use Rattle.event_lists.specs.Fences.{fence_in, readings, passes, MayOpen, Agree}
use Rattle.event_lists.specs.OwnEvents.{has_receipt_on_lane}
use Rattle.event_lists.specs.Legal.{Legal}
use Rattle.event_lists.specs.Quiet.{Quiet}
use Rattle.world_rule.specs.Views.{one_more_look}
use Rattle.world_words.specs.Lanes.{WordsView, LaneView}
use Rattle.fence_tree.specs.declared.rows.Sums.{Sums}
use Rattle.fence_tree.specs.declared.items.Verdict.{Verdict}
use Rattle.fence_tree.specs.declared.items.Verdict.TheVariants as on
use Rattle.fence_tree.specs.declared.state.Stage.{Stage}
use Rattle.fence_tree.specs.declared.state.Stage.TheVariants.{Reading, FirstChild, SecondChild, Reported}
use Rattle.fence_tree.specs.declared.state.Cause.{Cause}
use Rattle.fence_tree.specs.declared.state.Cause.TheVariants.{EmptyCell, Open, FirstPass, Moved}
use Rattle.fence_tree.specs.declared.state.FenceTurn.{FenceTurn}
use Rattle.fence_tree.specs.declared.state.FenceTurn.TheVariants.{Waiting, Done}
use Rattle.fence_tree.specs.Trees.{parent}
use Rattle.fence_tree.specs.Rows.{row_at, no_rows, HasSubtree, AreRead}
use Rattle.fence_tree.specs.Verdicts.{AreSums, IsRight}

-- the state of a rank in a fence: the last pass that it answered, how far the next one is, the rows that it has of that one,
-- and the sums of the last one
pub record StateView : Type 0 where
  pub rank : ℕ
  pub ranks : ℕ
  pub fence : ℕ
  pub answered : ℕ
  pub stage : Stage
  pub rows : List (Option Row)
  pub last : Sums

abbrev pub new_state : ℕ → ℕ → ℕ → StateView
new_state rank ranks fence = record { rank = rank; ranks = ranks; fence = fence; answered = 0; stage = Reading; rows = no_rows; last = record { sent = 0; handled = 0 } }

-- how many passes the rank has read, where it answered n
abbrev pub passes_read : Stage → ℕ → ℕ
passes_read Reading n = n
passes_read _ n = suc n

-- the rows that are there: none before the rank's own, then this one, then those of the first child's subtree too; none again
-- after they were reported, which rank 0 doesn't do
abbrev pub AreGathered : ℕ → ℕ → Stage → List (Option Row) → Type 0
AreGathered ranks r Reading rows = rows ≡ no_rows
AreGathered ranks r FirstChild rows = (row : Row) × (row_at rows r ≡ Some row)
AreGathered ranks r SecondChild rows = ((row : Row) × (row_at rows r ≡ Some row)) × HasSubtree ranks (2 * r + 1) rows
AreGathered ranks r Reported rows = (0 < r) × (rows ≡ no_rows)

-- the lane is that of a rank's main, inside of this fence with nothing in hand, and sees a legal list with its own events
pub record IsInside {A : Type 0} (words : WordsView A) (rank fence : ℕ) (v : LaneView) : Type 0 where
  pub table : v.table ≡ words.table
  pub name : v.name ≡ main_of rank
  pub owes : v.owes ≡ None
  pub hand : in_hand v.mine ≡ None
  pub inside : fence_in v.mine ≡ Some fence
  pub legal : Legal words.ranks words.workers v.seen
  pub own : part v.name v.seen ≡ v.mine

-- and so many passes of it were read on the lane, each attempt to its end
pub record HasRead {A : Type 0} (words : WordsView A) (rank fence n : ℕ) (v : LaneView) : Type 0 where
  pub lane : IsInside words rank fence v
  pub passes : passes (readings v.mine) ≡ n
  pub ended : MayOpen (readings v.mine)

-- the rank read n passes, and the lane sees what the state has: rows of the next pass, and the sums of the last one
pub record Knows {A : Type 0} (words : WordsView A) (s : StateView) (n : ℕ) (v : LaneView) : Type 0 where
  pub ranks : words.ranks ≡ s.ranks
  pub read : HasRead words s.rank s.fence n v
  pub no_receipt : has_receipt_on_lane s.fence v.mine ≡ false
  pub rows : AreRead s.fence (suc s.answered) s.rows v.seen
  pub last : (d : ℕ) → s.answered ≡ suc d → AreSums words.ranks s.fence (suc d) s.last v.seen

-- the readings of the fence on this lane, and what it sees of other ranks' readings, are those that turns of this state left
pub record IsTurning {A : Type 0} (words : WordsView A) (s : StateView) (v : LaneView) : Type 0 where
  pub knows : Knows words s (passes_read s.stage s.answered) v
  pub gathered : AreGathered words.ranks s.rank s.stage s.rows

-- readings and receipts of a fence
abbrev pub IsOfFence : ℕ → Event → Type 0
IsOfFence f (ReadHandled v g p) = g ≡ f
IsOfFence f (ReadRan v g p) = g ≡ f
IsOfFence f (ReadSubmitted v g p) = g ≡ f
IsOfFence f (ReadSent v g p) = g ≡ f
IsOfFence f (Receives r) = r.fence ≡ f
IsOfFence f _ = ⊥

-- the lane appended such events alone, and sees what it saw before
pub record Turned (fence : ℕ) (old new : LaneView) : Type 0 where
  pub more : List Event
  pub events : new.mine ≡ more ++ old.mine
  pub of_fence : AllByRecursion (IsOfFence fence) more
  pub spare : new.spare + length more ≡ old.spare
  pub knew : Begins old.seen new.seen
  pub same : (new.table ≡ old.table) × (new.name ≡ old.name) × (new.owes ≡ old.owes) × (new.progress ≡ old.progress)
  pub other : (new.set_stop ≡ old.set_stop) × (new.kept ≡ old.kept)

-- both were looked at, or read as the last events, since the lane was old
abbrev pub WereSeen : ℕ → ℕ → ℕ → LaneView → LaneView → Type 0
WereSeen fence ran submitted old new =
    ((new.ran_looks ≡ one_more_look old.name.rank ran old.ran_looks) × (new.submitted_looks ≡ one_more_look old.name.rank submitted old.submitted_looks))
    ⊎ ((h : ℕ) × (p : ℕ) × (new.mine ≡ ReadSubmitted submitted fence p ∷ (ReadRan ran fence p ∷ (ReadHandled h fence p ∷ old.mine))))

-- a child of the rank, or its parent
abbrev pub IsNeighbour : ℕ → ℕ → ℕ → Type 0
IsNeighbour ranks rank q = ((q < ranks) × ((q ≡ 2 * rank + 1) ⊎ (q ≡ 2 * rank + 2))) ⊎ ((0 < rank) × (q ≡ parent rank))

-- a turn ended since the cell of a neighbour was empty; or since tasks are still to run
abbrev pub IsEmptyCell : ℕ → ℕ → Cause → Type 0
IsEmptyCell ranks rank cause = (q : ℕ) × (cause ≡ EmptyCell q) × IsNeighbour ranks rank q

abbrev pub IsOpen : ℕ → LaneView → LaneView → Cause → Type 0
IsOpen fence old new cause = (ran : ℕ) × (submitted : ℕ) × (cause ≡ Open ran submitted) × (ran < submitted) × WereSeen fence ran submitted old new

-- an attempt found them so
abbrev pub IsOpenAttempt : ℕ → LaneView → LaneView → Cause → Type 0
IsOpenAttempt fence old new cause =
    (ran : ℕ) × (submitted : ℕ) × (cause ≡ Open ran submitted) × (ran < submitted) × ((h : ℕ) × (p : ℕ) × (new.mine ≡ ReadSubmitted submitted fence p ∷ (ReadRan ran fence p ∷ (ReadHandled h fence p ∷ old.mine))))

-- a verdict on the pass after the last answered one is known to the lane, which read that pass
pub record IsReached {A : Type 0} (words : WordsView A) (rank fence answered : ℕ) (verdict : Verdict) (v : LaneView) : Type 0 where
  pub read : HasRead words rank fence (suc answered) v
  pub right : IsRight words.ranks fence (suc answered) verdict v.seen
  pub no_receipt : ((r : Receipt) → verdict ≡ on.Done r → ⊥) → has_receipt_on_lane fence v.mine ≡ false

-- the state after a verdict, and the answer of the turn
abbrev pub state_after : Verdict → StateView → StateView
state_after (on.FirstPass sums) s = record s { answered = suc s.answered; stage = Reading; rows = no_rows; last = sums }
state_after (on.Moved first second) s = record s { answered = suc s.answered; stage = Reading; rows = no_rows; last = second }
state_after (on.Done r) s = s

abbrev pub answer_of : Verdict → ℕ → FenceTurn
answer_of (on.FirstPass sums) pass = Waiting (FirstPass sums)
answer_of (on.Moved first second) pass = Waiting (Moved pass first second)
answer_of (on.Done r) pass = Done r

-- the receipt of the fence is in the list, and it is quiet
abbrev pub IsQuietReceipt : ℕ → Receipt → List Mark → Type 0
IsQuietReceipt fence r log = (r.fence ≡ fence) × (x : Mark) × (earlier : List Mark) × (x.lane ≡ main_of 0) × (x.event ≡ Receives r) × Begins (x ∷ earlier) log × Quiet log earlier r

-- the sums of two passes of a fence, which don't agree
pub record HaveMoved (ranks fence pass : ℕ) (first second : Sums) (log : List Mark) : Type 0 where
  pub before : ℕ
  pub above : pass ≡ suc (suc before)
  pub one : AreSums ranks fence (suc before) first log
  pub two : AreSums ranks fence pass second log
  pub differ : Agree ranks fence (suc before) log → ⊥
