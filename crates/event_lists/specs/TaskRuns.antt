-- A small run on two ranks: a task that needs a future, and a unit sent to the other rank that gives it.
use Rattle.std.specs.Prelude.{ℕ, List, [], ◌∷◌, Some, None}
use Rattle.app_core.specs.declared.label.Label.{Label}
use Rattle.event_lists.specs.declared.event.Event.{Event}
use Rattle.event_lists.specs.declared.event.Event.TheVariants.{Sent, TookMessage, TookTask, Handled, Submitted, Ran, Gave}
use Rattle.event_lists.specs.declared.event.Parcel.TheVariants.{Unit as Spawned, Give}
use Rattle.event_lists.specs.declared.event.TaskName.{TaskName}
use Rattle.event_lists.specs.declared.mark.Mark.{Mark}
use Rattle.event_lists.specs.Events.{main_of}

abbrev pub label : ℕ → Label
label n = record { command = 1; part = 0; place = n }

-- a unit that gives future 3, and one that needs it
abbrev pub giver : TaskName
giver = record { unit = label 2; needs = []; due = Some (label 3) }

abbrev pub needer : TaskName
needer = record { unit = label 1; needs = label 3 ∷ []; due = None }

-- an event of the main of a rank
abbrev pub main_does : ℕ → Event → Mark
main_does r e = record { lane = main_of r; event = e; effect = None }

-- rank 0 sends the giver to rank 1, and submits the needer
abbrev pub spawned : List Mark
spawned = main_does 0 (Submitted 0 needer) ∷ (main_does 0 (Sent 0 1 (Spawned (label 2) (Some (label 3)))) ∷ [])

-- rank 1 takes the message, submits the giver and has handled the message
abbrev pub taken : List Mark
taken = main_does 1 (TookMessage 0 0) ∷ spawned

abbrev pub handled_there : List Mark
handled_there = main_does 1 (Handled 0 0 0) ∷ (main_does 1 (Submitted 0 giver) ∷ taken)

-- it runs the giver, which sends its future's value to rank 0
abbrev pub ran_there : List Mark
ran_there = main_does 1 (Ran 0 1 0) ∷ (main_does 1 (Sent 0 0 (Give (label 3))) ∷ (main_does 1 (TookTask 1 0) ∷ handled_there))

-- rank 0 gives the future
abbrev pub given_here : List Mark
given_here = main_does 0 (Handled 0 1 0) ∷ (main_does 0 (Gave (label 3)) ∷ (main_does 0 (TookMessage 1 0) ∷ ran_there))

-- and runs the needer
abbrev pub whole_run : List Mark
whole_run = main_does 0 (Ran 0 0 0) ∷ (main_does 0 (TookTask 0 0) ∷ given_here)

-- the needer is taken before its need was given
abbrev pub taken_too_early : List Mark
taken_too_early = main_does 0 (TookTask 0 0) ∷ ran_there

-- the message is handled before its unit was submitted
abbrev pub handled_too_early : List Mark
handled_too_early = main_does 1 (Handled 0 0 0) ∷ taken

-- the giver ends without giving
abbrev pub ran_too_early : List Mark
ran_too_early = main_does 1 (Ran 0 1 0) ∷ (main_does 1 (TookTask 1 0) ∷ handled_there)
