-- Lists of small runs, on one rank with no workers and no tasks, and which of them are legal.
use Rattle.std.specs.Prelude.{ℕ, List, [], ◌∷◌, None}
use Rattle.event_lists.specs.declared.event.Event.{Event}
use Rattle.event_lists.specs.declared.event.Event.TheVariants.{ReadHandled, ReadRan, ReadSubmitted, ReadSent, Enter, Leave, Receipt as Receives}
use Rattle.event_lists.specs.declared.receipt.Receipt.{Receipt}
use Rattle.event_lists.specs.declared.mark.Mark.{Mark}
use Rattle.event_lists.specs.Events.{main_of}

-- an event of rank 0's main
abbrev pub by_main : Event → Mark
by_main e = record { lane = main_of 0; event = e; effect = None }

-- a receipt of the first fence after this pass, of one rank that counted nothing
abbrev pub empty_receipt : ℕ → Receipt
empty_receipt p = record { fence = 1; pass = p; rows = record { sent = 0; handled = 0; tasks = 0 } ∷ [] }

-- a rank enters its first fence and reads each count once
abbrev pub one_pass : List Mark
one_pass =
    by_main (ReadSent 0 1 1) ∷ (by_main (ReadSubmitted 0 1 1) ∷ (by_main (ReadRan 0 1 1) ∷ (by_main (ReadHandled 0 1 1) ∷ (by_main (Enter 1) ∷ []))))

-- and once more
abbrev pub two_passes : List Mark
two_passes = by_main (ReadSent 0 1 2) ∷ (by_main (ReadSubmitted 0 1 2) ∷ (by_main (ReadRan 0 1 2) ∷ (by_main (ReadHandled 0 1 2) ∷ one_pass)))

-- a run of a job without commands: both passes, the receipt, and the end of the fence
abbrev pub first_run : List Mark
first_run = by_main (Leave 1) ∷ (by_main (Receives (empty_receipt 2)) ∷ two_passes)

-- a receipt after a single pass
abbrev pub second_run : List Mark
second_run = by_main (Receives (empty_receipt 1)) ∷ one_pass

-- handled is read, and then nothing else
abbrev pub one_reading : List Mark
one_reading = by_main (ReadHandled 0 1 1) ∷ (by_main (Enter 1) ∷ [])

-- submitted is read before ran
abbrev pub third_run : List Mark
third_run = by_main (ReadSubmitted 0 1 1) ∷ one_reading
