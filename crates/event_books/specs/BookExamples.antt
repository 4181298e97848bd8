-- A book over two ranks and books of a run of one rank, each beside some that differ from it in one thing.
use Rattle.std.specs.Prelude.{ℕ, true, false, List, [], ◌∷◌}
use Rattle.event_lists.specs.declared.event.Event.{Event}
use Rattle.event_lists.specs.declared.event.Event.TheVariants.{TookTask, Put, ReadHandled, ReadRan, ReadSubmitted, ReadSent, Enter, Leave, Receipt as Receives}
use Rattle.event_lists.specs.declared.receipt.Row.{Row}
use Rattle.event_books.specs.Books.{PartData, BookData, IsBook, IsLawful}

-- a hand and a bin of a rank, with its events
abbrev pub hand : ℕ → ℕ → List Event → PartData
hand r n es = record { lane = record { rank = r; bin = false; number = n }; events = es }

abbrev pub bin : ℕ → ℕ → List Event → PartData
bin r n es = record { lane = record { rank = r; bin = true; number = n }; events = es }

-- over two ranks with one worker each
abbrev pub of_two_ranks : List PartData → BookData
of_two_ranks parts = record { ranks = 2; workers = 1; parts = parts }

abbrev pub nothing_counted : Row
nothing_counted = record { sent = 0; handled = 0; tasks = 0 }

-- a receipt with these rows
abbrev pub receipt_with : List Row → Event
receipt_with rows = Receives (record { fence = 1; pass = 2; rows = rows })

-- the main of rank 0, with a receipt of these rows
abbrev pub receiver : List Row → PartData
receiver rows = hand 0 0 (Enter 1 ∷ (receipt_with rows ∷ []))

-- the receipt has a row for each rank
abbrev pub first_main : PartData
first_main = receiver (nothing_counted ∷ (nothing_counted ∷ []))

abbrev pub first_worker : PartData
first_worker = hand 0 1 (TookTask 0 0 ∷ [])

abbrev pub second_main : PartData
second_main = hand 1 0 (Enter 1 ∷ [])

abbrev pub entry_is_put : List Event
entry_is_put = Put (record { version = 1; place = 3 }) ∷ []

abbrev pub first_bin : PartData
first_bin = bin 0 3 entry_is_put

abbrev pub second_bin : PartData
second_bin = bin 1 2 entry_is_put

-- hands by rank and number, then bins by rank and number
abbrev pub in_order : List PartData
in_order = first_main ∷ (first_worker ∷ (second_main ∷ (first_bin ∷ (second_bin ∷ []))))

-- these parts are in no book over two ranks with one worker each
abbrev pub AreNoBook : List PartData → Type 0
AreNoBook parts = IsBook (of_two_ranks parts) → ⊥

-- the events of a run of one rank without commands, and the same with the readings of ran and submitted exchanged
abbrev pub second_pass : List Event
second_pass =
    ReadHandled 0 1 2 ∷ (ReadRan 0 1 2 ∷ (ReadSubmitted 0 1 2 ∷ (ReadSent 0 1 2 ∷ (receipt_with (nothing_counted ∷ []) ∷ (Leave 1 ∷ [])))))

abbrev pub whole_run : List Event
whole_run = Enter 1 ∷ (ReadHandled 0 1 1 ∷ (ReadRan 0 1 1 ∷ (ReadSubmitted 0 1 1 ∷ (ReadSent 0 1 1 ∷ second_pass))))

abbrev pub exchanged_run : List Event
exchanged_run = Enter 1 ∷ (ReadHandled 0 1 1 ∷ (ReadSubmitted 0 1 1 ∷ (ReadRan 0 1 1 ∷ (ReadSent 0 1 1 ∷ second_pass))))

-- the book of one rank whose main has these events, in order
abbrev pub of_one_main : List Event → BookData
of_one_main es = record { ranks = 1; workers = 0; parts = hand 0 0 es ∷ [] }

abbrev pub IsLawless : BookData → Type 0
IsLawless b = IsLawful b → ⊥
