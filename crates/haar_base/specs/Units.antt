-- The units: their labels, dues, needs and homes, and what they read and count.
use Rattle.std.specs.Prelude.{◌≡◌, ℕ, zero, suc, ◌+◌, ◌*◌, ◌/◌, ◌^◌, ◌≤◌, ◌&&◌, nat_le, nat_lt, if◌then◌else◌, Bool, true, false, List, [], ◌∷◌, ◌++◌, map, Option, Some, None, ⊤}
use Rattle.app_core.specs.declared.Label.{Label}
use Rattle.app_core.specs.declared.CellName.{CellName}
use Rattle.app_core.specs.Homes.{rank_within}
use Rattle.tree_key.specs.Keys.{Key, child, place_of}
use Rattle.tree_model.specs.Shapes.{is_key_of}
use Rattle.owner_map.specs.declared.OwnerMap.{OwnerMap}
use Rattle.owner_map.specs.Owners.{owner}
use Rattle.haar_units.specs.Jobs.{DistributedJob}
use Rattle.haar_units.specs.Units.{down_unit, up_unit, erase_unit, count_unit, sum_unit, key_future, count_futures, entry, due}
use Rattle.haar_units.specs.Places.{key_at}
use Rattle.haar_units.specs.Distributions.{by_map, place_owner}
use Rattle.haar_base.specs.declared.unit.Side.{Side}
use Rattle.haar_base.specs.declared.unit.Side.TheVariants.{Nothing, Entry, Below}
use Rattle.haar_base.specs.declared.unit.Sides.{Sides}
use Rattle.haar_base.specs.declared.operation.Operation.{Operation}
use Rattle.haar_base.specs.declared.unit.Down.{Down as DownUnit}
use Rattle.haar_base.specs.declared.unit.Up.{Up as UpUnit}
use Rattle.haar_base.specs.declared.unit.Unit.{Unit}
use Rattle.haar_base.specs.declared.unit.Unit.TheVariants.{Down, Up, Clear, Count, Total}
use Rattle.haar_base.specs.Operations.{first_source, second_source, counted_source, operation_at, word_of}

abbrev pub label_of : Unit → Label
label_of (Down u) = down_unit u.command (place_of u.key)
label_of (Up u) = up_unit u.command (place_of u.key)
label_of (Clear command key) = erase_unit command (place_of key)
label_of (Count command rank) = count_unit command rank
label_of (Total command ranks) = sum_unit command

abbrev pub due_of : Unit → Option Label
due_of u = due (label_of u)

abbrev pub needs_of : Unit → List Label
needs_of (Down u) = []
needs_of (Up u) = key_future u.command (place_of (child u.key false)) ∷ key_future u.command (place_of (child u.key true)) ∷ []
needs_of (Clear command key) = []
needs_of (Count command rank) = []
needs_of (Total command ranks) = count_futures command 0 ranks

-- the rank that is named for a unit: the owner of its key, the rank that it counts, or rank 0
abbrev pub home_rule_of : OwnerMap → Unit → ℕ → Option ℕ
home_rule_of owners (Down u) ranks = Some (owner owners u.key ranks)
home_rule_of owners (Up u) ranks = Some (owner owners u.key ranks)
home_rule_of owners (Clear command key) ranks = Some (owner owners key ranks)
home_rule_of owners (Count command rank) ranks = Some rank
home_rule_of owners (Total command count) ranks = Some 0

abbrev pub home_of : OwnerMap → Unit → ℕ → ℕ
home_of owners u ranks = rank_within ranks (home_rule_of owners u ranks)

-- the owner of the key of a place, where there is one
abbrev pub place_rule : OwnerMap → ℕ → ℕ → Option ℕ
place_rule owners place ranks = if nat_le 1 place && nat_lt place (2 ^ 17) then Some (owner owners (key_at place) ranks) else None

abbrev pub place_home : OwnerMap → ℕ → ℕ → ℕ
place_home owners place ranks = rank_within ranks (place_rule owners place ranks)

-- the rank that is named for a future: the owner of the key above, for a key's future
abbrev pub kept_rule_by : OwnerMap → ℕ → ℕ → ℕ → Option ℕ
kept_rule_by owners zero place ranks = place_rule owners (place / 2) ranks
kept_rule_by owners (suc part) place ranks = None

abbrev pub kept_rule_of : OwnerMap → Label → ℕ → Option ℕ
kept_rule_of owners future ranks = kept_rule_by owners future.part future.place ranks

abbrev pub kept_at : OwnerMap → Label → ℕ → ℕ
kept_at owners future ranks = rank_within ranks (kept_rule_of owners future ranks)

-- the entry of a key that is read on a side
abbrev pub side_reads : Side → ℕ → Key → List CellName
side_reads Nothing version key = []
side_reads (Entry known) version key = entry version (place_of key) ∷ []
side_reads (Below sum) version key = []

abbrev pub source_of : (Operation → ℕ) → Option Operation → ℕ
source_of source None = 0
source_of source (Some operation) = source operation

abbrev pub sides_read : Side → Side → Option Operation → Key → List CellName
sides_read first second operation key = side_reads first (source_of first_source operation) key ++ side_reads second (source_of second_source operation) key

abbrev pub reads_of : List Operation → Unit → List CellName
reads_of operations (Down u) = sides_read u.first u.second (operation_at operations u.command) u.key
reads_of operations (Up u) = []
reads_of operations (Clear command key) = []
reads_of operations (Count command rank) = []
reads_of operations (Total command ranks) = []

abbrev pub counted_by : Option Operation → Option ℕ
counted_by None = None
counted_by (Some operation) = counted_source operation

abbrev pub counts_of : List Operation → Unit → Option ℕ
counts_of operations (Down u) = None
counts_of operations (Up u) = None
counts_of operations (Clear command key) = None
counts_of operations (Count command rank) = counted_by (operation_at operations command)
counts_of operations (Total command ranks) = None

-- the commands as plain data: their words, the number of ranks, and the rank that owns the key of a place
abbrev pub job_of : List Operation → OwnerMap → ℕ → DistributedJob
job_of operations owners ranks = record { operations = map word_of operations; ranks = ranks; owner = place_owner (by_map owners ranks) }
