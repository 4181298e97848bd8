-- A run of the small application on two ranks, up to its first fence. Lists have the newest event first.
use Rattle.std.specs.Prelude.{ℕ, zero, suc, true, false, List, [], ◌∷◌, Some, None}
use Rattle.event_lists.specs.declared.event.Event.{Event}
use Rattle.event_lists.specs.declared.event.Event.TheVariants.{Sent, TookMessage, TookTask, Handled, Submitted, Ran, Gave, Put, Erased, Enter, Leave, ReadHandled, ReadRan, ReadSubmitted, ReadSent, Receipt as Receives}
use Rattle.event_lists.specs.declared.event.Parcel.TheVariants.{Unit as Spawned, Give}
use Rattle.event_lists.specs.declared.event.TaskName.{TaskName}
use Rattle.event_lists.specs.declared.mark.Mark.{Mark}
use Rattle.event_lists.specs.declared.receipt.Row.{Row}
use Rattle.event_lists.specs.declared.receipt.Receipt.{Receipt}
use Rattle.event_lists.specs.Events.{main_of}
use Rattle.event_lists.specs.TaskRuns.{main_does}
use Rattle.event_laws.specs.Follows.{TaskEffects, effect_name}
use Rattle.small_app.specs.declared.unit.Unit.{Unit}
use Rattle.small_app.specs.declared.unit.Unit.TheVariants.{Fill, Leaf, Sum, Clear}
use Rattle.small_app.specs.Small.{first_result, leaf_future, leaf_entry, leaf_value, label_of, due_of, needs_of}
use Rattle.small_app.specs.SmallUnits.{outlines_of}

-- tasks of the units

abbrev task_of : Unit → TaskName
task_of unit = record { unit = label_of unit; needs = needs_of unit; due = due_of unit }

abbrev pub fill_task : TaskName
fill_task = task_of Fill

abbrev pub left_task : TaskName
left_task = task_of (Leaf false (leaf_value false))

abbrev pub right_task : TaskName
right_task = task_of (Leaf true (leaf_value true))

abbrev pub sum_task : TaskName
sum_task = task_of Sum

abbrev pub clear_task : TaskName
clear_task = task_of Clear

-- the effects of each task; one is on rank 1
abbrev pub task_effects : TaskEffects
task_effects zero zero = Some (outlines_of 2 Fill)
task_effects zero (suc zero) = Some (outlines_of 2 (Leaf true (leaf_value true)))
task_effects zero (suc (suc zero)) = Some (outlines_of 2 Sum)
task_effects zero (suc (suc (suc zero))) = Some (outlines_of 2 Clear)
task_effects (suc zero) zero = Some (outlines_of 2 (Leaf false (leaf_value false)))
task_effects _ _ = None

-- an event of the main of a rank that carries out the effect at place i of task n
abbrev pub acts : ℕ → ℕ → ℕ → Event → Mark
acts r n i e = record { lane = main_of r; event = e; effect = Some (effect_name r n i) }

-- one on the lane of a bin
abbrev pub stores : ℕ → ℕ → ℕ → ℕ → Event → Mark
stores r bin n i e = record { lane = record { rank = r; bin = true; number = bin }; event = e; effect = Some (effect_name r n i) }

-- what each rank reads in both passes: one message sent and one handled, and four tasks or one
abbrev pub row_0 : Row
row_0 = record { sent = 1; handled = 1; tasks = 4 }

abbrev pub row_1 : Row
row_1 = record { sent = 1; handled = 1; tasks = 1 }

abbrev pub receipt : Receipt
receipt = record { fence = 1; pass = 2; rows = row_0 ∷ row_1 ∷ [] }

-- rank 0 runs the unit that fills: it sends the left leaf to rank 1, and submits the right leaf and the sum
abbrev pub filled : List Mark
filled =
    main_does 0 (Ran 0 0 0)
    ∷ acts 0 0 2 (Submitted 2 sum_task)
    ∷ acts 0 0 1 (Submitted 1 right_task)
    ∷ acts 0 0 0 (Sent 0 1 (Spawned (label_of (Leaf false (leaf_value false))) (Some (leaf_future false))))
    ∷ main_does 0 (TookTask 0 0)
    ∷ main_does 0 (Submitted 0 fill_task)
    ∷ []

-- rank 1 takes the left leaf and runs it: the entry is put, and what is given is sent to rank 0
abbrev pub left_put : List Mark
left_put =
    main_does 1 (Ran 0 1 0)
    ∷ acts 1 0 1 (Sent 0 0 (Give (leaf_future false)))
    ∷ stores 1 2 0 0 (Put (leaf_entry false))
    ∷ main_does 1 (TookTask 1 0)
    ∷ main_does 1 (Handled 0 0 0)
    ∷ main_does 1 (Submitted 0 left_task)
    ∷ main_does 1 (TookMessage 0 0)
    ∷ filled

-- rank 0 runs the right leaf, which would be on rank 2
abbrev pub right_put : List Mark
right_put =
    main_does 0 (Ran 1 0 1)
    ∷ acts 0 1 1 (Gave (leaf_future true))
    ∷ stores 0 3 1 0 (Put (leaf_entry true))
    ∷ main_does 0 (TookTask 0 1)
    ∷ left_put

-- rank 0 takes what rank 1 gave, and runs the sum
abbrev pub summed : List Mark
summed =
    main_does 0 (Ran 2 0 2)
    ∷ acts 0 2 1 (Gave first_result)
    ∷ acts 0 2 0 (Submitted 3 clear_task)
    ∷ main_does 0 (TookTask 0 2)
    ∷ main_does 0 (Handled 0 1 0)
    ∷ main_does 0 (Gave (leaf_future false))
    ∷ main_does 0 (TookMessage 1 0)
    ∷ right_put

-- the right entry is erased
abbrev pub cleared : List Mark
cleared =
    main_does 0 (Ran 3 0 3)
    ∷ stores 0 3 3 0 (Erased (leaf_entry true))
    ∷ main_does 0 (TookTask 0 3)
    ∷ summed

-- the mains enter the fence
abbrev pub entered : List Mark
entered =
    main_does 1 (Enter 1)
    ∷ main_does 0 (Enter 1)
    ∷ cleared

-- they read their counts in a first pass
abbrev pub first_pass : List Mark
first_pass =
    main_does 1 (ReadSent 1 1 1)
    ∷ main_does 1 (ReadSubmitted 1 1 1)
    ∷ main_does 1 (ReadRan 1 1 1)
    ∷ main_does 1 (ReadHandled 1 1 1)
    ∷ main_does 0 (ReadSent 1 1 1)
    ∷ main_does 0 (ReadSubmitted 4 1 1)
    ∷ main_does 0 (ReadRan 4 1 1)
    ∷ main_does 0 (ReadHandled 1 1 1)
    ∷ entered

-- and in a second one, which agrees
abbrev pub second_pass : List Mark
second_pass =
    main_does 1 (ReadSent 1 1 2)
    ∷ main_does 1 (ReadSubmitted 1 1 2)
    ∷ main_does 1 (ReadRan 1 1 2)
    ∷ main_does 1 (ReadHandled 1 1 2)
    ∷ main_does 0 (ReadSent 1 1 2)
    ∷ main_does 0 (ReadSubmitted 4 1 2)
    ∷ main_does 0 (ReadRan 4 1 2)
    ∷ main_does 0 (ReadHandled 1 1 2)
    ∷ first_pass

-- the receipt comes, and the mains leave
abbrev pub whole_run : List Mark
whole_run =
    main_does 1 (Leave 1)
    ∷ main_does 0 (Leave 1)
    ∷ main_does 0 (Receives receipt)
    ∷ second_pass
