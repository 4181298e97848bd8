-- The small application's units by their labels, and what its bins have and what is counted.
use Rattle.std.specs.Prelude.{ℕ, zero, suc, ◌<◌, ◌==◌, if◌then◌else◌, true, false, List, [], ◌∷◌, Option, Some, None}
use Rattle.app_core.specs.declared.Label.{Label}
use Rattle.app_core.specs.declared.Outline.{Outline}
use Rattle.app_core.specs.Given.{Given}
use Rattle.app_core.specs.Homes.{rank_within}
use Rattle.event_laws.specs.Follows.{Doing, program_from}
use Rattle.event_laws.specs.Totals.{totals_of}
use Rattle.small_app.specs.declared.unit.Unit.{Unit}
use Rattle.small_app.specs.declared.unit.Unit.TheVariants.{Fill, Leaf, Sum, Clear, Read, Count, Total, Guessed}
use Rattle.small_app.specs.declared.guess.GuessUnit.TheVariants.{Guess, Early, Late}
use Rattle.small_app.specs.Small.{kinds, label_of, due_of, needs_of, home_of, leaf_rank, leaf_value, starts_of, step_of, told}

-- what rank 0's main does
abbrev pub program : ℕ → List Doing
program ranks = program_from 1 kinds (starts_of ranks)

-- the unit of a label
abbrev pub unit_at : Label → Unit
unit_at l =
    if l.command == 1
    then (if l.part == 0 then (if l.place == 1 then Fill else if l.place == 2 then Leaf false (leaf_value false) else Leaf true (leaf_value true)) else if l.part == 1 then Sum else Clear)
    else if l.command == 5 then (if l.part == 0 then Guessed Guess else if l.part == 1 then Guessed Early else Guessed Late)
    else (if l.part == 1 then Total else if l.place == 2 then Read else Count)

abbrev pub no_inputs : Given ℕ ℕ
no_inputs = record { values = []; cells = []; size = 0 }

-- what a unit does where its inputs don't matter, and what the unit of a label does
abbrev pub outlines_of : ℕ → Unit → List Outline
outlines_of ranks unit = told ranks (step_of unit no_inputs)

abbrev pub plan : ℕ → Label → List Outline
plan ranks l = outlines_of ranks (unit_at l)

abbrev pub home : ℕ → Label → ℕ
home ranks l = home_of (unit_at l) ranks

abbrev pub needs : Label → List Label
needs l = needs_of (unit_at l)

abbrev pub dues : Label → Option Label
dues l = due_of (unit_at l)

-- the label of the unit that spawns the unit of a label
abbrev pub parent : Label → Option Label
parent l =
    if l.command == 1 then (if l.part == 2 then Some (label_of Sum) else if l.part == 1 then Some (label_of Fill) else if l.place == 1 then None else Some (label_of Fill)) else if l.command == 5 then (if l.part == 2 then Some (label_of (Guessed Early)) else None) else None

-- the label of the unit that creates the future of a label
abbrev pub raiser : Label → Option Label
raiser l = if l.command == 1 then (if l.place == 1 then None else Some (label_of Fill)) else None

-- the labels of the units of the first work command, and of the first two
abbrev pub first_units : List Label
first_units = label_of Fill ∷ label_of (Leaf false (leaf_value false)) ∷ label_of (Leaf true (leaf_value true)) ∷ label_of Sum ∷ label_of Clear ∷ []

abbrev pub all_units : List Label
all_units =
    label_of Fill ∷ label_of (Leaf false (leaf_value false)) ∷ label_of (Leaf true (leaf_value true)) ∷ label_of Sum ∷ label_of Clear
    ∷ label_of Read ∷ label_of Count ∷ label_of Total ∷ []

-- the units of the commands before a fence, of the first two
abbrev pub units_before : ℕ → List Label
units_before zero = []
units_before (suc zero) = first_units
units_before (suc (suc fence)) = all_units

-- the first command writes version 1, and the last one version 2
abbrev pub writer_of : ℕ → Option ℕ
writer_of version = if version == 1 then Some 1 else if version == 2 then Some 5 else None

-- what a guess decides isn't told: the last command isn't sound
abbrev pub IsSound : ℕ → Type 0
IsSound command = command < 5

-- after the first fence the left entry lies at its home, and no other of version 1
abbrev pub holds : ℕ → ℕ → ℕ → List ℕ
holds ranks rank version = if version == 1 then (if rank == rank_within ranks (leaf_rank false) then 2 ∷ [] else []) else []

-- the messages and the tasks of the commands before a fence, of the first two
abbrev pub total_of : ℕ → ℕ → ℕ × ℕ
total_of ranks fence = totals_of fence (program ranks) (plan ranks) (home ranks) (units_before fence)
