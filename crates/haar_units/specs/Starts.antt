-- The units that a command starts, and what rank 0's main does.
use Rattle.std.specs.Prelude.{ℕ, zero, suc, List, [], ◌∷◌, ◌++◌, Option, Some, None}
use Rattle.app_core.specs.declared.outline.Outline.{Outline}
use Rattle.app_core.specs.declared.outline.Outline.TheVariants as of
use Rattle.event_laws.specs.Follows.{Doing, program_from}
use Rattle.haar_units.specs.Jobs.{Operation, DistributedJob, operation_at, kinds}
use Rattle.haar_units.specs.Jobs.Operation.{Size, Fence}
use Rattle.haar_units.specs.Units.{down_unit, count_unit, sum_unit, key_future, count_future, count_futures}

-- spawn the down unit of a key
abbrev pub spawn_down : DistributedJob → ℕ → ℕ → Outline
spawn_down job command place = of.Spawn (down_unit command place) (Some (key_future command place)) [] (job.owner place)

-- spawn the count units of so many ranks, from the first one on
abbrev pub count_starts : ℕ → ℕ → ℕ → List Outline
count_starts command first zero = []
count_starts command first (suc more) = of.Spawn (count_unit command first) (Some (count_future command first)) [] first ∷ count_starts command (suc first) more

-- `size` starts a count on each rank and the unit that adds the counts up, other commands the down unit of the root
abbrev pub starts_of_operation : DistributedJob → ℕ → Operation → List Outline
starts_of_operation job command Size = count_starts command 0 job.ranks ++ of.Spawn (sum_unit command) (Some (key_future command 1)) (count_futures command 0 job.ranks) 0 ∷ []
starts_of_operation job command Fence = []
starts_of_operation job command _ = spawn_down job command 1 ∷ []

abbrev pub starts_if : DistributedJob → ℕ → Option Operation → List Outline
starts_if job command None = []
starts_if job command (Some operation) = starts_of_operation job command operation

abbrev pub starts : DistributedJob → ℕ → List Outline
starts job command = starts_if job command (operation_at job command)

abbrev pub program : DistributedJob → List Doing
program job = program_from 1 (kinds job) (starts job)
