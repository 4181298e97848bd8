-- What is known of the two lanes of a loan, and of the two tasks, between their turns.
use Rattle.std.specs.Prelude.{◌≡◌, ℕ, ◌≤◌, false, List, [], ◌∷◌, Some, None}
use Rattle.app_core.specs.declared.Outline.{Outline}
use Rattle.app_core.specs.declared.outline.Outline.TheVariants as of
use Rattle.event_lists.specs.declared.lane.LaneName.{LaneName}
use Rattle.event_lists.specs.declared.event.Event.TheVariants.{Submitted}
use Rattle.event_lists.specs.declared.event.TaskName.{TaskName}
use Rattle.event_lists.specs.declared.mark.Item.TheVariants.{Task}
use Rattle.event_lists.specs.declared.future.Bringer.TheVariants.{Main as main_at}
use Rattle.event_lists.specs.declared.future.Future.{Future}
use Rattle.event_lists.specs.Events.{main_of, part, IsSubmitted}
use Rattle.event_lists.specs.Futures.{due_of, needs_of, times_given}
use Rattle.event_lists.specs.Legal.{Legal}
use Rattle.world_rule.specs.declared.view.Pending.TheVariants.{Counted}
use Rattle.world_rule.specs.declared.view.Load.TheVariants.{OfTask}
use Rattle.world_rule.specs.Owing.{owed}
use Rattle.world_words.specs.Lanes.{WordsView, LaneView, CarrierView, ToldView, task_name}
use Rattle.world_words.specs.Closing.{IsFree}
use Rattle.lane_tests.specs.declared.loans.Loan.TheVariants.{Lender, Borrower}
use Rattle.lane_tests.specs.Loans.{sum_lent, label_of}

-- the worker of rank 0
abbrev pub worker : LaneName
worker = record { rank = 0; bin = false; number = 1 }

-- the future that the main's starts create
abbrev pub lent : Future
lent = record { by = main_at 0; label = sum_lent }

-- the names under which the main submits both units
abbrev pub lender : TaskName
lender = task_name (label_of Lender) [] (Some sum_lent)

abbrev pub borrower : TaskName
borrower = task_name (label_of Borrower) (sum_lent ∷ []) None

-- what the lender does
abbrev pub lending : List Outline
lending = of.Give sum_lent 0 ∷ []

-- the carrier has the lender's task, whose due is the future
pub record HasLender {A : Type 0} (words : WordsView A) (c : CarrierView) : Type 0 where
  pub number : ℕ
  pub table : c.table ≡ words.table
  pub owes : c.owed ≡ owed (Counted (Task 0 number)) 0 (OfTask lender)
  pub submitted : IsSubmitted 0 number lender c.seen
  pub due : due_of (Task 0 number) c.seen ≡ Some lent
  pub needs : needs_of (Task 0 number) c.seen ≡ []

-- the carrier has the borrower's task, which needs the future
pub record HasBorrower {A : Type 0} (words : WordsView A) (c : CarrierView) : Type 0 where
  pub number : ℕ
  pub table : c.table ≡ words.table
  pub owes : c.owed ≡ owed (Counted (Task 0 number)) 0 (OfTask borrower)
  pub submitted : IsSubmitted 0 number borrower c.seen
  pub due : due_of (Task 0 number) c.seen ≡ None
  pub needs : needs_of (Task 0 number) c.seen ≡ lent ∷ []

-- the main submitted the lender
pub record HasOffered {A : Type 0} (words : WordsView A) (v : LaneView) : Type 0 where
  pub number : ℕ
  pub free : IsFree words v
  pub name : v.name ≡ main_of 0
  pub mine : v.mine ≡ Submitted number lender ∷ []
  pub legal : Legal words.ranks words.workers v.seen
  pub own : part v.name v.seen ≡ v.mine
  pub room : 3 ≤ v.spare

-- and the borrower
pub record HasAsked {A : Type 0} (words : WordsView A) (v : LaneView) : Type 0 where
  pub first : ℕ
  pub second : ℕ
  pub free : IsFree words v
  pub name : v.name ≡ main_of 0
  pub mine : v.mine ≡ Submitted second borrower ∷ Submitted first lender ∷ []
  pub room : 2 ≤ v.spare

-- who told this knew that the future has its value
pub record KnowsGiven {A : Type 0} (words : WordsView A) (t : ToldView) : Type 0 where
  pub table : t.table ≡ words.table
  pub given : 1 ≤ times_given lent t.seen
