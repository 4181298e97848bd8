-- What is asked of what was sent or submitted, by what is shown of it.
use Rattle.std.proofs.Common.{◌≡◌, ◌↔◌, ℕ, false, sym, ap, ◌∙◌, subst}
use Rattle.std.specs.Prelude.{List, Option, Some, None}
use Rattle.event_lists.specs.declared.lane.LaneName.{LaneName}
use Rattle.event_lists.specs.declared.event.Event.TheVariants.{TookMessage, TookTask}
use Rattle.event_lists.specs.declared.event.Parcel.{Parcel}
use Rattle.event_lists.specs.declared.event.TaskName.{TaskName}
use Rattle.event_lists.specs.declared.future.Bringer.{Bringer}
use Rattle.event_lists.specs.declared.mark.Item.TheVariants.{Message, Task}
use Rattle.event_lists.specs.declared.mark.Mark.{Mark}
use Rattle.event_lists.specs.Events.{IsSent}
use Rattle.event_lists.specs.Futures.{IsIn, needs_of, futures_by}
use Rattle.event_lists.specs.Dues.{Carries}
use Rattle.event_lists.specs.Legal.{Legal}
use Rattle.event_rules.specs.declared.values.Load.{Load}
use Rattle.event_rules.specs.declared.values.Load.TheVariants as of
use Rattle.event_rules.specs.declared.values.Made.{Made}
use Rattle.event_rules.specs.declared.values.LaneState.{LaneState}
use Rattle.event_rules.specs.Asks.{Asks}
use Rattle.event_rules.specs.Shown.{load_of, ShowsLane, ShowsMade}
use Rattle.event_rules.specs.States.{GoesTo, HasParcel, AreGiven}
use Rattle.event_rules.proofs.LoadLemmas.{sent_load, load_sent, submitted_load, load_submitted, no_message, needs_spawned}

-- a message carries a parcel where what was sent has it
pub parcel_carried : (ranks workers : ℕ) (log : List Mark) → Legal ranks workers log → (r n : ℕ) (p : Parcel) (d : Load) → load_of (Message r n) log ≡ Some d → HasParcel p d ↔ Carries (Some (Message r n)) p log
parcel_carried ranks workers log h r n p (of.Message to q) i = (
  (λ e. (to, load_sent log r n to p (i ∙ ap (λ (z : Parcel). Some (of.Message to z)) e))),
  (λ s. let j = sent_load ranks workers log h r n s.0 p s.1 in cc),
)
parcel_carried ranks workers log h r n p (of.Task t) i = (
  (λ e. absurd e),
  (λ s. let j = sent_load ranks workers log h r n s.0 p s.1 in absurd (cc)),
)

-- what wasn't sent carries nothing
pub none_carried : (ranks workers : ℕ) (log : List Mark) → Legal ranks workers log → (r n : ℕ) (p : Parcel) → load_of (Message r n) log ≡ None → Carries (Some (Message r n)) p log → ⊥
none_carried ranks workers log h r n p i s = let j = sent_load ranks workers log h r n s.0 p s.1 in cc

-- a message may be taken where nothing is in hand, it goes to the lane's rank, and it wasn't taken
pub message_taken : (ranks workers : ℕ) (log : List Mark) → Legal ranks workers log → (r n : ℕ) (l : LaneName) (s : LaneState) (m : Made) → ShowsLane log l s → ShowsMade log (Message r n) m
    → ((s.hand ≡ None) × GoesTo l.rank m.load × (m.taken ≡ false)) ↔ Asks ranks log l (TookMessage r n)
message_taken ranks workers log h r n l s m shows made = (
  (λ a. ((sym shows.hand ∙ a.0, sent m.load made.load a.1, sym made.taken ∙ a.2), tt, tt)),
  (λ a. (shows.hand ∙ a.0.0, goes m.load made.load a.0.1, made.taken ∙ a.0.2)),
)
  where
    sent : (d : Load) → load_of (Message r n) log ≡ Some d → GoesTo l.rank d → (p : Parcel) × IsSent r n l.rank p log
    sent (of.Message to q) i e = (q, load_sent log r n l.rank q (i ∙ ap (λ (z : ℕ). Some (of.Message z q)) e))
    sent (of.Task t) i e = absurd e

    goes : (d : Load) → load_of (Message r n) log ≡ Some d → (p : Parcel) × IsSent r n l.rank p log → GoesTo l.rank d
    goes (of.Message to q) i s = let j = sent_load ranks workers log h r n l.rank s.0 s.1 in cc
    goes (of.Task t) i s = let j = sent_load ranks workers log h r n l.rank s.0 s.1 in absurd (cc)

-- nor what wasn't sent
pub no_message_taken : (ranks workers : ℕ) (log : List Mark) → Legal ranks workers log → (r n : ℕ) (l : LaneName) → load_of (Message r n) log ≡ None → Asks ranks log l (TookMessage r n) → ⊥
no_message_taken ranks workers log h r n l i a = let j = sent_load ranks workers log h r n l.rank a.0.1.0 a.0.1.1 in cc

-- a task may be taken where nothing is in hand, it is of the lane's rank, it wasn't taken, and its needs were given
pub task_taken : (ranks workers : ℕ) (log : List Mark) → Legal ranks workers log → (r n : ℕ) (l : LaneName) (s : LaneState) (m : Made) (t : TaskName) → ShowsLane log l s → ShowsMade log (Task r n) m → m.load ≡ of.Task t
    → ((s.hand ≡ None) × (r ≡ l.rank) × (m.taken ≡ false) × AreGiven m.by log t.needs) ↔ Asks ranks log l (TookTask r n)
task_taken ranks workers log h r n l s m t shows made is = (
  (λ a. ((sym shows.hand ∙ a.0, a.1, (t, load_submitted log r n t load), sym made.taken ∙ a.2), (λ f i. a.3 f (subst (IsIn f) needs i)), tt)),
  (λ a. (shows.hand ∙ a.0.0, a.0.1, made.taken ∙ a.0.3, λ f i. a.1 f (subst (IsIn f) (sym needs) i))),
)
  where
    load : load_of (Task r n) log ≡ Some (of.Task t)
    load = made.load ∙ ap Some is

    needs : needs_of (Task r n) log ≡ futures_by m.by t.needs
    needs = needs_spawned log r n t load ∙ ap (λ (b : Option Bringer). futures_by b t.needs) (sym made.by)

-- nor what wasn't submitted
pub no_task_taken : (ranks workers : ℕ) (log : List Mark) → Legal ranks workers log → (r n : ℕ) (l : LaneName) → load_of (Task r n) log ≡ None → Asks ranks log l (TookTask r n) → ⊥
no_task_taken ranks workers log h r n l i a = let j = submitted_load ranks workers log h r n a.0.2.0 a.0.2.1 in cc

-- a task's load is a task
pub message_load : (log : List Mark) (r n to : ℕ) (p : Parcel) (m : Made) → ShowsMade log (Task r n) m → m.load ≡ of.Message to p → ⊥
message_load log r n to p m made is = no_message log r n to p (made.load ∙ ap Some is)
