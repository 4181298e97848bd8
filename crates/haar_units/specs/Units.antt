-- The units of commands on trees, by their labels: who spawns them, where they run, what they need and fulfil. A key is
-- named by its place: the root has 1, and the children of x have 2 * x and 2 * x + 1.
use Rattle.std.specs.Prelude.{ℕ, zero, suc, ◌+◌, ◌*◌, ◌/◌, nat_lt, if◌then◌else◌, List, [], ◌∷◌, Option, Some, None}
use Rattle.app_core.specs.declared.label.Label.{Label}
use Rattle.app_core.specs.declared.label.CellName.{CellName}
use Rattle.haar_units.specs.Jobs.{DistributedJob}

abbrev pub label : ℕ → ℕ → ℕ → Label
label command part place = record { command = command; part = part; place = place }

-- labels of units

-- visits a key
abbrev pub down_unit : ℕ → ℕ → Label
down_unit command place = label command 0 place

-- combines what the children of a key gave
abbrev pub up_unit : ℕ → ℕ → Label
up_unit command place = label command 1 place

-- erases the entry of a key
abbrev pub erase_unit : ℕ → ℕ → Label
erase_unit command place = label command 2 place

-- counts the entries of a rank
abbrev pub count_unit : ℕ → ℕ → Label
count_unit command rank = label command 3 rank

-- adds up the counts
abbrev pub sum_unit : ℕ → Label
sum_unit command = label command 4 1

-- labels of futures, and names of entries

-- what is known of the tree below a key; the root's is the command's result
abbrev pub key_future : ℕ → ℕ → Label
key_future command place = label command 0 place

-- the count of a rank
abbrev pub count_future : ℕ → ℕ → Label
count_future command rank = label command 1 rank

-- the counts of so many ranks, from the first one on
abbrev pub count_futures : ℕ → ℕ → ℕ → List Label
count_futures command first zero = []
count_futures command first (suc more) = count_future command first ∷ count_futures command (suc first) more

-- the version that a command writes has the command's number
abbrev pub entry : ℕ → ℕ → CellName
entry command place = record { version = command; place = place }

-- what the label of a unit determines

-- the label of the unit that spawns it; none where the command starts it
abbrev pub parent_of : ℕ → ℕ → ℕ → Option Label
parent_of command zero place = if nat_lt 1 place then Some (down_unit command (place / 2)) else None
parent_of command (suc zero) place = Some (down_unit command place)
parent_of command (suc (suc zero)) place = Some (up_unit command (place / 2))
parent_of command (suc (suc (suc part))) place = None

abbrev pub parent : Label → Option Label
parent unit = parent_of unit.command unit.part unit.place

-- the future that it must fulfil; an up unit takes over that of its spawner
abbrev pub due_of : ℕ → ℕ → ℕ → Option Label
due_of command zero place = Some (key_future command place)
due_of command (suc zero) place = Some (key_future command place)
due_of command (suc (suc zero)) place = None
due_of command (suc (suc (suc zero))) place = Some (count_future command place)
due_of command (suc (suc (suc (suc part)))) place = Some (key_future command 1)

abbrev pub due : Label → Option Label
due unit = due_of unit.command unit.part unit.place

-- the futures that it needs
abbrev pub needs_of : ℕ → ℕ → ℕ → ℕ → List Label
needs_of ranks command (suc zero) place = key_future command (2 * place) ∷ key_future command (2 * place + 1) ∷ []
needs_of ranks command (suc (suc (suc (suc part)))) place = count_futures command 0 ranks
needs_of ranks command _ place = []

abbrev pub needs : DistributedJob → Label → List Label
needs job unit = needs_of job.ranks unit.command unit.part unit.place

-- the rank on which it runs
abbrev pub home_of : DistributedJob → ℕ → ℕ → ℕ
home_of job (suc (suc (suc zero))) place = place
home_of job (suc (suc (suc (suc part)))) place = 0
home_of job _ place = job.owner place

abbrev pub home : DistributedJob → Label → ℕ
home job unit = home_of job unit.part unit.place

-- what the label of a future determines

-- the label of the unit that creates it; none where the command's starts do
abbrev pub creator_of : ℕ → ℕ → ℕ → Option Label
creator_of command zero place = if nat_lt 1 place then Some (down_unit command (place / 2)) else None
creator_of command (suc part) place = None

abbrev pub creator : Label → Option Label
creator future = creator_of future.command future.part future.place

-- the rank that keeps it: the owner of the parent of its key, and rank 0 for results and counts
abbrev pub future_home_of : DistributedJob → ℕ → ℕ → ℕ
future_home_of job zero place = if nat_lt 1 place then job.owner (place / 2) else 0
future_home_of job (suc part) place = 0

abbrev pub future_home : DistributedJob → Label → ℕ
future_home job future = future_home_of job future.part future.place
