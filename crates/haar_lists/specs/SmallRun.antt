-- A run of a small job at two ranks, with two fences, by hand. Lists have the newest event first.
use Rattle.std.specs.Prelude.{ℕ, zero, suc, ◌+◌, ◌*◌, true, List, [], ◌∷◌, Some, None, pos, codes, slice_get, get_or}
use Rattle.app_core.specs.declared.Outline.{Outline}
use Rattle.app_core.specs.declared.Outline.TheVariants as of
use Rattle.event_lists.specs.declared.event.Event.{Event}
use Rattle.event_lists.specs.declared.event.Event.TheVariants.{Sent, TookMessage, TookTask, Handled, Submitted, Ran, Gave, Put, Erased, Enter, Leave, ReadHandled, ReadRan, ReadSubmitted, ReadSent, Receipt as Receives}
use Rattle.event_lists.specs.declared.event.Parcel.TheVariants.{Unit as Spawned, Give}
use Rattle.event_lists.specs.declared.event.TaskName.{TaskName}
use Rattle.event_lists.specs.declared.mark.Mark.{Mark}
use Rattle.event_lists.specs.declared.receipt.Row.{Row}
use Rattle.event_lists.specs.declared.receipt.Receipt.{Receipt}
use Rattle.event_lists.specs.Events.{main_of}
use Rattle.event_lists.specs.TaskRuns.{main_does}
use Rattle.event_laws.specs.Follows.{TaskEffects, effect_name}
use Rattle.owner_map.specs.declared.map.OwnerMap.TheVariants.{Block}
use Rattle.tree_model.specs.Commands.{Command}
use Rattle.tree_model.specs.Functions.Function.{Const}
use Rattle.haar_node.specs.declared.Func.TheVariants as func
use Rattle.haar_units.specs.Units.{down_unit, up_unit, erase_unit, key_future, entry}
use Rattle.haar_base.specs.declared.operation.Operation.TheVariants as operation
use Rattle.haar_meaning.specs.PlannedJobs.{PlannedJob}

-- both cells have the value 1, each in a leaf of its own; after a fence they become one leaf
abbrev pub halves : PlannedJob
halves = record {
  depth = 1;
  commands = Command.Project (codes "f") (record { function = Const (pos 1); level = 1; tolerance = 0 }) ∷ Command.Fence ∷ Command.Coarsen (codes "f") ∷ [];
  operations = operation.Project (func.Const (pos 1)) 1 0 ∷ operation.Fence ∷ operation.Coarsen 1 ∷ [];
  owners = Block;
  ranks = 2;
}

-- tasks of the units: of command c at place x

abbrev pub down : ℕ → ℕ → TaskName
down c x = record { unit = down_unit c x; needs = []; due = Some (key_future c x) }

abbrev pub up : ℕ → ℕ → TaskName
up c x = record { unit = up_unit c x; needs = key_future c (2 * x) ∷ key_future c (2 * x + 1) ∷ []; due = Some (key_future c x) }

abbrev pub erase : ℕ → ℕ → TaskName
erase c x = record { unit = erase_unit c x; needs = []; due = None }

-- the effects of each task, by its rank and number; the place 3 alone is of rank 1

abbrev pub spawn_down : ℕ → ℕ → ℕ → Outline
spawn_down c x home = of.Spawn (down_unit c x) (Some (key_future c x)) [] home

abbrev pub spawn_up : ℕ → Outline
spawn_up c = of.Spawn (up_unit c 1) (Some (key_future c 1)) (key_future c 2 ∷ key_future c 3 ∷ []) 0

abbrev pub spawn_children : ℕ → List Outline
spawn_children c = spawn_down c 2 0 ∷ spawn_down c 3 1 ∷ spawn_up c ∷ []

abbrev pub spawn_erase : ℕ → ℕ → Outline
spawn_erase x home = of.Spawn (erase_unit 3 x) None [] home

abbrev pub tasks : ℕ → List (List Outline)
tasks zero =
    (of.Put (entry 1 1) ∷ spawn_children 1)
    ∷ (of.Put (entry 1 2) ∷ of.Give (key_future 1 2) 0 ∷ [])
    ∷ (of.Give (key_future 1 1) 0 ∷ [])
    ∷ spawn_children 3
    ∷ (of.Put (entry 3 2) ∷ of.Give (key_future 3 2) 0 ∷ [])
    ∷ (of.Put (entry 3 1) ∷ spawn_erase 2 0 ∷ spawn_erase 3 1 ∷ of.Give (key_future 3 1) 0 ∷ [])
    ∷ (of.Erase (entry 3 2) ∷ [])
    ∷ []
tasks (suc zero) =
    (of.Put (entry 1 3) ∷ of.Give (key_future 1 3) 0 ∷ [])
    ∷ (of.Put (entry 3 3) ∷ of.Give (key_future 3 3) 0 ∷ [])
    ∷ (of.Erase (entry 3 3) ∷ [])
    ∷ []
tasks _ = []

abbrev pub effects_of : ℕ → ℕ → List Outline
effects_of r n = get_or (tasks r) n []

abbrev pub task_effects : TaskEffects
task_effects r n = slice_get (tasks r) n

-- an event of the main of a rank that carries out the effect at place i of task n
abbrev pub acts : ℕ → ℕ → ℕ → Event → Mark
acts r n i e = record { lane = main_of r; event = e; effect = Some (effect_name r n i) }

-- one on the lane of a bin
abbrev pub stores : ℕ → ℕ → ℕ → ℕ → Event → Mark
stores r bin n i e = record { lane = record { rank = r; bin = true; number = bin }; event = e; effect = Some (effect_name r n i) }

-- what each rank reads in both passes of a fence

abbrev pub counts : ℕ → ℕ → ℕ → Row
counts sent handled tasks = record { sent = sent; handled = handled; tasks = tasks }

abbrev pub first_receipt : Receipt
first_receipt = record { fence = 1; pass = 2; rows = counts 1 1 3 ∷ counts 1 1 1 ∷ [] }

abbrev pub second_receipt : Receipt
second_receipt = record { fence = 2; pass = 2; rows = counts 3 2 7 ∷ counts 2 3 3 ∷ [] }

-- rank 0 runs the unit of the root: it puts the root's entry, sends the unit of the right half to rank 1, and submits the other two
abbrev pub split : List Mark
split =
    main_does 0 (Ran 0 0 0)
    ∷ acts 0 0 3 (Submitted 2 (up 1 1))
    ∷ acts 0 0 2 (Sent 0 1 (Spawned (down_unit 1 3) (Some (key_future 1 3))))
    ∷ acts 0 0 1 (Submitted 1 (down 1 2))
    ∷ stores 0 1 0 0 (Put (entry 1 1))
    ∷ main_does 0 (TookTask 0 0)
    ∷ main_does 0 (Submitted 0 (down 1 1))
    ∷ []

-- the left half is a leaf: its entry is put, and its future is given
abbrev pub left_put : List Mark
left_put =
    main_does 0 (Ran 1 0 1)
    ∷ acts 0 1 1 (Gave (key_future 1 2))
    ∷ stores 0 2 1 0 (Put (entry 1 2))
    ∷ main_does 0 (TookTask 0 1)
    ∷ split

-- rank 1 does the same for the right half, and sends what it gives to rank 0
abbrev pub right_put : List Mark
right_put =
    main_does 1 (Ran 0 1 0)
    ∷ acts 1 0 1 (Sent 0 0 (Give (key_future 1 3)))
    ∷ stores 1 3 0 0 (Put (entry 1 3))
    ∷ main_does 1 (TookTask 1 0)
    ∷ main_does 1 (Handled 0 0 0)
    ∷ main_does 1 (Submitted 0 (down 1 3))
    ∷ main_does 1 (TookMessage 0 0)
    ∷ left_put

-- rank 0 takes it, and the up unit of the root gives the result
abbrev pub projected : List Mark
projected =
    main_does 0 (Ran 2 0 2)
    ∷ acts 0 2 0 (Gave (key_future 1 1))
    ∷ main_does 0 (TookTask 0 2)
    ∷ main_does 0 (Handled 0 1 0)
    ∷ main_does 0 (Gave (key_future 1 3))
    ∷ main_does 0 (TookMessage 1 0)
    ∷ right_put

-- the mains enter the first fence
abbrev pub first_entered : List Mark
first_entered =
    main_does 1 (Enter 1)
    ∷ main_does 0 (Enter 1)
    ∷ projected

-- they read their counts
abbrev pub first_pass : List Mark
first_pass =
    main_does 1 (ReadSent 1 1 1)
    ∷ main_does 1 (ReadSubmitted 1 1 1)
    ∷ main_does 1 (ReadRan 1 1 1)
    ∷ main_does 1 (ReadHandled 1 1 1)
    ∷ main_does 0 (ReadSent 1 1 1)
    ∷ main_does 0 (ReadSubmitted 3 1 1)
    ∷ main_does 0 (ReadRan 3 1 1)
    ∷ main_does 0 (ReadHandled 1 1 1)
    ∷ first_entered

-- and again, and find the same
abbrev pub first_read : List Mark
first_read =
    main_does 1 (ReadSent 1 1 2)
    ∷ main_does 1 (ReadSubmitted 1 1 2)
    ∷ main_does 1 (ReadRan 1 1 2)
    ∷ main_does 1 (ReadHandled 1 1 2)
    ∷ main_does 0 (ReadSent 1 1 2)
    ∷ main_does 0 (ReadSubmitted 3 1 2)
    ∷ main_does 0 (ReadRan 3 1 2)
    ∷ main_does 0 (ReadHandled 1 1 2)
    ∷ first_pass

-- the receipt comes, and they leave
abbrev pub first_left : List Mark
first_left =
    main_does 1 (Leave 1)
    ∷ main_does 0 (Leave 1)
    ∷ main_does 0 (Receives first_receipt)
    ∷ first_read

-- `coarsen` goes down the same keys, by what the entries of `project` say, and puts nothing at the root yet
abbrev pub merging : List Mark
merging =
    main_does 0 (Ran 3 0 3)
    ∷ acts 0 3 2 (Submitted 5 (up 3 1))
    ∷ acts 0 3 1 (Sent 1 1 (Spawned (down_unit 3 3) (Some (key_future 3 3))))
    ∷ acts 0 3 0 (Submitted 4 (down 3 2))
    ∷ main_does 0 (TookTask 0 3)
    ∷ main_does 0 (Submitted 3 (down 3 1))
    ∷ first_left

-- both halves put a leaf, and give its sum
abbrev pub left_again : List Mark
left_again =
    main_does 0 (Ran 4 0 4)
    ∷ acts 0 4 1 (Gave (key_future 3 2))
    ∷ stores 0 2 4 0 (Put (entry 3 2))
    ∷ main_does 0 (TookTask 0 4)
    ∷ merging

abbrev pub right_again : List Mark
right_again =
    main_does 1 (Ran 1 1 1)
    ∷ acts 1 1 1 (Sent 1 0 (Give (key_future 3 3)))
    ∷ stores 1 3 1 0 (Put (entry 3 3))
    ∷ main_does 1 (TookTask 1 1)
    ∷ main_does 1 (Handled 1 0 1)
    ∷ main_does 1 (Submitted 1 (down 3 3))
    ∷ main_does 1 (TookMessage 0 1)
    ∷ left_again

-- the sums are equal: the up unit of the root puts a leaf there, and spawns the units that erase both halves
abbrev pub merged : List Mark
merged =
    main_does 0 (Ran 5 0 5)
    ∷ acts 0 5 3 (Gave (key_future 3 1))
    ∷ acts 0 5 2 (Sent 2 1 (Spawned (erase_unit 3 3) None))
    ∷ acts 0 5 1 (Submitted 6 (erase 3 2))
    ∷ stores 0 1 5 0 (Put (entry 3 1))
    ∷ main_does 0 (TookTask 0 5)
    ∷ main_does 0 (Handled 1 1 1)
    ∷ main_does 0 (Gave (key_future 3 3))
    ∷ main_does 0 (TookMessage 1 1)
    ∷ right_again

-- each half is erased on the rank that owns it
abbrev pub left_erased : List Mark
left_erased =
    main_does 0 (Ran 6 0 6)
    ∷ stores 0 2 6 0 (Erased (entry 3 2))
    ∷ main_does 0 (TookTask 0 6)
    ∷ merged

abbrev pub right_erased : List Mark
right_erased =
    main_does 1 (Ran 2 1 2)
    ∷ stores 1 3 2 0 (Erased (entry 3 3))
    ∷ main_does 1 (TookTask 1 2)
    ∷ main_does 1 (Handled 2 0 2)
    ∷ main_does 1 (Submitted 2 (erase 3 3))
    ∷ main_does 1 (TookMessage 0 2)
    ∷ left_erased

-- the mains enter the fence at the end
abbrev pub second_entered : List Mark
second_entered =
    main_does 1 (Enter 2)
    ∷ main_does 0 (Enter 2)
    ∷ right_erased

-- they read their counts
abbrev pub second_pass : List Mark
second_pass =
    main_does 1 (ReadSent 2 2 1)
    ∷ main_does 1 (ReadSubmitted 3 2 1)
    ∷ main_does 1 (ReadRan 3 2 1)
    ∷ main_does 1 (ReadHandled 3 2 1)
    ∷ main_does 0 (ReadSent 3 2 1)
    ∷ main_does 0 (ReadSubmitted 7 2 1)
    ∷ main_does 0 (ReadRan 7 2 1)
    ∷ main_does 0 (ReadHandled 2 2 1)
    ∷ second_entered

-- and again, and find the same
abbrev pub second_read : List Mark
second_read =
    main_does 1 (ReadSent 2 2 2)
    ∷ main_does 1 (ReadSubmitted 3 2 2)
    ∷ main_does 1 (ReadRan 3 2 2)
    ∷ main_does 1 (ReadHandled 3 2 2)
    ∷ main_does 0 (ReadSent 3 2 2)
    ∷ main_does 0 (ReadSubmitted 7 2 2)
    ∷ main_does 0 (ReadRan 7 2 2)
    ∷ main_does 0 (ReadHandled 2 2 2)
    ∷ second_pass

-- the receipt comes, and they leave
abbrev pub whole_run : List Mark
whole_run =
    main_does 1 (Leave 2)
    ∷ main_does 0 (Leave 2)
    ∷ main_does 0 (Receives second_receipt)
    ∷ second_read
