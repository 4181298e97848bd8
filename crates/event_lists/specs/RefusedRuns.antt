-- Small runs, each with an event that may come next, and with one that may not.
use Rattle.std.specs.Prelude.{ℕ, true, false, List, [], ◌∷◌, None}
use Rattle.app_core.specs.declared.label.Label.{Label}
use Rattle.event_lists.specs.declared.event.Event.TheVariants.{Sent, TookTask, Submitted, Ran, Put, ReadHandled, ReadRan, ReadSubmitted, ReadSent, Enter, Leave, Receipt as Receives}
use Rattle.event_lists.specs.declared.event.Parcel.TheVariants.{Unit as Spawned}
use Rattle.event_lists.specs.declared.event.TaskName.{TaskName}
use Rattle.event_lists.specs.declared.receipt.Receipt.{Receipt}
use Rattle.event_lists.specs.declared.mark.Mark.{Mark}
use Rattle.event_lists.specs.Legal.{Legal}
use Rattle.event_lists.specs.TaskRuns.{label, giver, needer, main_does}

-- the list is legal with the event at its end
abbrev pub Accepts : ℕ → ℕ → List Mark → Mark → Type 0
Accepts ranks workers log x = Legal ranks workers (x ∷ log)

-- the list is legal, and isn't with the event at its end
abbrev pub Refuses : ℕ → ℕ → List Mark → Mark → Type 0
Refuses ranks workers log x = Legal ranks workers log × (Legal ranks workers (x ∷ log) → ⊥)

-- a unit without a due, in a message to this rank
abbrev pub sends_to : ℕ → Mark
sends_to to = main_does 0 (Sent 0 to (Spawned (label 1) None))

-- a task with these needs, and without a due
abbrev pub with_needs : List Label → TaskName
with_needs needs = record { unit = label 1; needs = needs; due = None }

-- submission n of rank 0, by its main, of a task with these needs
abbrev pub submits : ℕ → List Label → Mark
submits n needs = main_does 0 (Submitted n (with_needs needs))

-- one task without needs was submitted
abbrev pub one_task : List Mark
one_task = submits 0 [] ∷ []

-- hand n of rank 0 takes task 0
abbrev pub hand_takes : ℕ → Mark
hand_takes n = record { lane = record { rank = 0; bin = false; number = n }; event = TookTask 0 0; effect = None }

-- an entry is put on the lane of bin n of rank 0
abbrev pub puts_in : ℕ → Mark
puts_in n = record { lane = record { rank = 0; bin = true; number = n }; event = Put (record { version = 1; place = 3 }); effect = None }

-- one task was submitted, which needs future 3
abbrev pub one_need : List Mark
one_need = main_does 0 (Submitted 0 needer) ∷ []

-- and one whose due is this future
abbrev pub need_and_due : List Mark
need_and_due = main_does 0 (Submitted 1 giver) ∷ one_need

-- a task is in hand whose due is future 3
abbrev pub giver_in_hand : List Mark
giver_in_hand = main_does 0 (TookTask 0 0) ∷ (main_does 0 (Submitted 0 giver) ∷ [])

-- a task is in hand that has no due
abbrev pub task_in_hand : List Mark
task_in_hand = hand_takes 0 ∷ one_task

-- it spawned a task that needs future 3
abbrev pub spawned_a_need : List Mark
spawned_a_need = main_does 0 (Submitted 1 needer) ∷ task_in_hand

-- and one whose due is this future
abbrev pub spawned_its_due : List Mark
spawned_its_due = main_does 0 (Submitted 2 giver) ∷ spawned_a_need

-- the main entered a fence after it submitted a task
abbrev pub in_a_fence : List Mark
in_a_fence = main_does 0 (Enter 1) ∷ one_task

-- and took the task there
abbrev pub at_work : List Mark
at_work = hand_takes 0 ∷ in_a_fence

-- the first two readings of an attempt, while the task didn't run
abbrev pub two_readings : List Mark
two_readings = main_does 0 (ReadRan 0 1 1) ∷ (main_does 0 (ReadHandled 0 1 1) ∷ in_a_fence)

-- the attempt found ran and submitted different
abbrev pub found_different : List Mark
found_different = main_does 0 (ReadSubmitted 1 1 1) ∷ two_readings

-- an attempt of a run without tasks, which found them equal
abbrev pub found_equal : List Mark
found_equal = main_does 0 (ReadSubmitted 0 1 1) ∷ (main_does 0 (ReadRan 0 1 1) ∷ (main_does 0 (ReadHandled 0 1 1) ∷ (main_does 0 (Enter 1) ∷ [])))

-- the attempt is opened again, and the task runs
abbrev pub ran_then : List Mark
ran_then = main_does 0 (Ran 0 0 0) ∷ (hand_takes 0 ∷ (main_does 0 (ReadHandled 0 1 1) ∷ found_different))

-- the second attempt completes the first pass
abbrev pub passed_once : List Mark
passed_once = main_does 0 (ReadSent 0 1 1) ∷ (main_does 0 (ReadSubmitted 1 1 1) ∷ (main_does 0 (ReadRan 1 1 1) ∷ ran_then))

-- and there is a second pass
abbrev pub passed_twice : List Mark
passed_twice = main_does 0 (ReadSent 0 1 2) ∷ (main_does 0 (ReadSubmitted 1 1 2) ∷ (main_does 0 (ReadRan 1 1 2) ∷ (main_does 0 (ReadHandled 0 1 2) ∷ passed_once)))

-- the receipt of the fence, with the one task
abbrev pub receipt_of_one_task : Receipt
receipt_of_one_task = record { fence = 1; pass = 2; rows = record { sent = 0; handled = 0; tasks = 1 } ∷ [] }

-- the fence has its receipt
abbrev pub received : List Mark
received = main_does 0 (Receives receipt_of_one_task) ∷ passed_twice

-- the event that ends the fence
abbrev pub leaves : Mark
leaves = main_does 0 (Leave 1)
