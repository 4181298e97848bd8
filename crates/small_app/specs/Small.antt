-- The small application: its names, its ranks, its steps, and what is right in it.
use Rattle.std.specs.Prelude.{◌≡◌, ℕ, ◌+◌, ◌*◌, ◌%◌, ◌^◌, ◌==◌, if◌then◌else◌, Bool, true, false, MatchBool, List, [], ◌∷◌, Option, Some, None, ⊤, slice_index, Contains}
use Rattle.app_core.specs.declared.Label.{Label}
use Rattle.app_core.specs.declared.CellName.{CellName}
use Rattle.app_core.specs.declared.CommandKind.{CommandKind}
use Rattle.app_core.specs.declared.CommandKind.TheVariants.{Work, Fence}
use Rattle.app_core.specs.declared.Effect.{Effect}
use Rattle.app_core.specs.declared.Effect.TheVariants.{Spawn, SpawnNeeding, Give, Put, Erase}
use Rattle.app_core.specs.declared.Outline.{Outline}
use Rattle.app_core.specs.Given.{Given}
use Rattle.app_core.specs.Homes.{rank_within}
use Rattle.app_core.specs.Inputs.{AreRightInputs}
use Rattle.app_core.specs.Outlines.{outlines, same_label}
use Rattle.small_app.specs.declared.unit.Unit.{Unit}
use Rattle.small_app.specs.declared.unit.Unit.TheVariants.{Fill, Leaf, Sum, Clear, Read, Count, Total, Guessed}
use Rattle.small_app.specs.Guess as guess

abbrev pub kinds : List CommandKind
kinds = Work ∷ Fence ∷ Work ∷ Fence ∷ Work ∷ []

-- names: command, part and place; futures have part 0

abbrev pub first_result : Label
first_result = record { command = 1; part = 0; place = 1 }

abbrev pub leaf_future : Bool → Label
leaf_future false = record { command = 1; part = 0; place = 2 }
leaf_future true = record { command = 1; part = 0; place = 3 }

abbrev pub last_result : Label
last_result = record { command = 3; part = 0; place = 1 }

abbrev pub read_future : Label
read_future = record { command = 3; part = 0; place = 2 }

abbrev pub count_future : Label
count_future = record { command = 3; part = 0; place = 3 }

abbrev pub result_of : ℕ → Option Label
result_of command = if command == 1 then Some first_result else if command == 3 then Some last_result else if command == 5 then Some guess.guess_result else None

-- the entries that the leaves put, at places 2 and 3 of version 1
abbrev pub leaf_entry : Bool → CellName
leaf_entry false = record { version = 1; place = 2 }
leaf_entry true = record { version = 1; place = 3 }

-- what a leaf puts and gives
abbrev pub leaf_value : Bool → ℕ
leaf_value false = 5
leaf_value true = 7

-- units

abbrev pub label_of : Unit → Label
label_of Fill = first_result
label_of (Leaf right value) = leaf_future right
label_of Sum = record { command = 1; part = 1; place = 1 }
label_of Clear = record { command = 1; part = 2; place = 3 }
label_of Read = read_future
label_of Count = count_future
label_of Total = record { command = 3; part = 1; place = 1 }
label_of (Guessed unit) = guess.label_of unit

abbrev pub due_of : Unit → Option Label
due_of Fill = Some first_result
due_of (Leaf right value) = Some (leaf_future right)
due_of Sum = Some first_result
due_of Clear = None
due_of Read = Some read_future
due_of Count = Some count_future
due_of Total = Some last_result
due_of (Guessed unit) = guess.due_of unit

abbrev pub needs_of : Unit → List Label
needs_of Fill = []
needs_of (Leaf right value) = []
needs_of Sum = leaf_future false ∷ leaf_future true ∷ []
needs_of Clear = []
needs_of Read = []
needs_of Count = []
needs_of Total = read_future ∷ count_future ∷ []
needs_of (Guessed unit) = guess.needs_of unit

abbrev pub reads_of : Unit → List CellName
reads_of Fill = []
reads_of (Leaf right value) = []
reads_of Sum = []
reads_of Clear = []
reads_of Read = leaf_entry false ∷ []
reads_of Count = []
reads_of Total = []
reads_of (Guessed unit) = []

abbrev pub counts_of : Unit → Option ℕ
counts_of Fill = None
counts_of (Leaf right value) = None
counts_of Sum = None
counts_of Clear = None
counts_of Read = None
counts_of Count = Some 1
counts_of Total = None
counts_of (Guessed unit) = None

-- a leaf carries the number that it is to put
abbrev pub IsUnit : Unit → Type 0
IsUnit Fill = ⊤
IsUnit (Leaf right value) = value ≡ leaf_value right
IsUnit Sum = ⊤
IsUnit Clear = ⊤
IsUnit Read = ⊤
IsUnit Count = ⊤
IsUnit Total = ⊤
IsUnit (Guessed unit) = ⊤

-- ranks

-- the left entry is to lie on rank 1, the right one on rank 2
abbrev pub leaf_rank : Bool → Option ℕ
leaf_rank false = Some 1
leaf_rank true = Some 2

abbrev pub home_rule_of : Unit → Option ℕ
home_rule_of Fill = Some 0
home_rule_of (Leaf right value) = leaf_rank right
home_rule_of Sum = Some 0
home_rule_of Clear = leaf_rank true
home_rule_of Read = leaf_rank false
home_rule_of Count = leaf_rank false
home_rule_of Total = Some 0
home_rule_of (Guessed unit) = guess.home_rule_of unit

abbrev pub home_of : Unit → ℕ → ℕ
home_of unit ranks = rank_within ranks (home_rule_of unit)

-- rank 3 keeps the last result, rank 0 any other future
abbrev pub kept_rule_of : Label → Option ℕ
kept_rule_of future = if same_label future last_result then Some 3 else if future.part == 0 then Some 0 else None

abbrev pub kept_at : Label → ℕ → ℕ
kept_at future ranks = rank_within ranks (kept_rule_of future)

abbrev pub entry_rule_of : CellName → Option ℕ
entry_rule_of entry = if entry.version == 1 then (if entry.place == 2 then leaf_rank false else if entry.place == 3 then leaf_rank true else None) else if entry.version == 2 then Some 0 else None

abbrev pub entry_home_of : ℕ → CellName → ℕ
entry_home_of ranks entry = rank_within ranks (entry_rule_of entry)

-- steps

abbrev pub starting_of : ℕ → List (Effect Unit ℕ ℕ)
starting_of command =
    if command == 1 then Spawn Fill ∷ []
    else if command == 3 then Spawn Read ∷ Spawn Count ∷ SpawnNeeding Total (read_future ∷ count_future ∷ []) ∷ []
    else if command == 5 then guess.starting
    else []

abbrev pub step_of : Unit → Given ℕ ℕ → List (Effect Unit ℕ ℕ)
step_of Fill given =
    Spawn (Leaf false (leaf_value false)) ∷ Spawn (Leaf true (leaf_value true))
    ∷ SpawnNeeding Sum (leaf_future false ∷ leaf_future true ∷ []) ∷ []
step_of (Leaf right value) given = Put (leaf_entry right) value ∷ Give (leaf_future right) value ∷ []
step_of Sum given = Spawn Clear ∷ Give first_result ((slice_index given.values 0 + slice_index given.values 1) % 2 ^ 64) ∷ []
step_of Clear given = Erase (leaf_entry true) ∷ []
step_of Read given = Give read_future (slice_index given.cells 0) ∷ []
step_of Count given = Give count_future given.size ∷ []
step_of Total given = Give last_result ((slice_index given.values 0 * 10 % 2 ^ 64 + slice_index given.values 1) % 2 ^ 64) ∷ []
step_of (Guessed unit) given = guess.step_of unit given.values

-- the versions that are dropped at a fence: version 1 at the second
abbrev pub dropped_of : ℕ → List ℕ
dropped_of fence = if fence == 2 then 1 ∷ [] else []

-- what is right

abbrev pub value_of : Label → Option ℕ
value_of future =
    if same_label future first_result then Some 12
    else if same_label future (leaf_future false) then Some (leaf_value false)
    else if same_label future (leaf_future true) then Some (leaf_value true)
    else if same_label future last_result then Some 51
    else if same_label future read_future then Some 5
    else if same_label future count_future then Some 1
    else if same_label future guess.guess_result then Some guess.guess_value
    else None

-- every number is right for the guess
abbrev pub IsRightValue : Label → ℕ → Type 0
IsRightValue future value = MatchBool (same_label future guess.guess_future) ⊤ (value_of future ≡ Some value)

abbrev pub cell_of : CellName → Option ℕ
cell_of entry = if entry.version == 1 then (if entry.place == 2 then Some (leaf_value false) else if entry.place == 3 then Some (leaf_value true) else None) else if entry.version == 2 then (if entry.place == 1 then Some guess.guess_value else None) else None

abbrev pub IsRightCell : CellName → ℕ → Type 0
IsRightCell entry cell = cell_of entry ≡ Some cell

-- after the first fence the left entry is the only one of version 1; of another version every number is right
abbrev pub IsRightSize : ℕ → ℕ → ℕ → ℕ → Type 0
IsRightSize ranks rank version number =
    MatchBool (version == 1) (number ≡ (if rank == rank_within ranks (leaf_rank false) then 1 else 0)) ⊤

-- the same as plain data

-- the outlines of these effects, where there are so many ranks
abbrev pub told : ℕ → List (Effect Unit ℕ ℕ) → List Outline
told ranks effects = outlines label_of due_of home_of kept_at ranks effects

abbrev pub starts_of : ℕ → ℕ → List Outline
starts_of ranks command = told ranks (starting_of command)

-- these inputs are right for a unit
abbrev pub IsRightFor : ℕ → Unit → Given ℕ ℕ → Type 0
IsRightFor ranks unit given = AreRightInputs IsRightValue IsRightCell (IsRightSize ranks) (needs_of unit) (reads_of unit) (counts_of unit) (home_of unit ranks) given

-- a unit with this label has effects with these outlines, on inputs that are right for it
abbrev pub MayDo : ℕ → Label → List Outline → Type 0
MayDo ranks label os = (unit : Unit) × (given : Given ℕ ℕ) × IsUnit unit × (label_of unit ≡ label) × IsRightFor ranks unit given × (os ≡ told ranks (step_of unit given))

abbrev pub MayRead : Label → CellName → Type 0
MayRead label entry = (unit : Unit) × IsUnit unit × (label_of unit ≡ label) × Contains (reads_of unit) entry

abbrev pub MayCount : Label → ℕ → Type 0
MayCount label version = (unit : Unit) × IsUnit unit × (label_of unit ≡ label) × (counts_of unit ≡ Some version)
