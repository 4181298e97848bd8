-- When versions are dropped: at the first fence that comes after the version's command and after all commands that read it.
use Rattle.std.specs.Prelude.{◌≡◌, ℕ, ◌-◌, ◌≤◌, Bool, true, false, ◌&&◌, not, nat_le, nat_lt, List, length, filter, Some, slice_get, Contains}
use Rattle.std.specs.List.{list_any, range_with_len}
use Rattle.std.specs.Option.{option_map_or}
use Rattle.event_laws.specs.Held.{IsBefore, fences_before}
use Rattle.haar_units.specs.Jobs.{Operation, DistributedJob, operation_at, kinds}
use Rattle.haar_units.specs.Bins.{writer_of}

-- which command reads, or counts the entries of, which version
abbrev pub Readers : Type 0
Readers = ℕ → ℕ → Bool

-- a command after the fence of a number reads the version
abbrev pub is_read_after : DistributedJob → Readers → ℕ → ℕ → Bool
is_read_after job reads fence version = list_any (λ command. nat_le fence (fences_before command (kinds job)) && reads command version) (range_with_len 1 (length job.operations))

-- the version is written before the fence, and no command after it reads it
abbrev pub is_used_up : DistributedJob → Readers → ℕ → ℕ → Bool
is_used_up job reads fence version = option_map_or (λ command. nat_lt (fences_before command (kinds job)) fence) (writer_of job version) false && not (is_read_after job reads fence version)

-- the versions that are dropped at a fence, in order: those that are used up there, and not at the fence before
abbrev pub dropped_of : DistributedJob → Readers → ℕ → List ℕ
dropped_of job reads fence = filter (λ version. is_used_up job reads fence version && not (is_used_up job reads (fence - 1) version)) (range_with_len 1 (length job.operations))

-- a dropped version is written before the fence
abbrev pub DroppedIsWritten : Type 0
DroppedIsWritten =
    (job : DistributedJob) (reads : Readers) (fence version : ℕ) → Contains (dropped_of job reads fence) version
    → (command : ℕ) × (writer_of job version ≡ Some command) × IsBefore (kinds job) command fence

-- and is read only by commands before the fence
abbrev pub DroppedStaysUnread : Type 0
DroppedStaysUnread =
    (job : DistributedJob) (reads : Readers) (fence version command : ℕ) (operation : Operation) → Contains (dropped_of job reads fence) version
    → operation_at job command ≡ Some operation → reads command version ≡ true → IsBefore (kinds job) command fence

-- it is dropped at one fence, at one index
abbrev pub DropsComeOnce : Type 0
DropsComeOnce =
    (job : DistributedJob) (reads : Readers) (fence other index place version : ℕ)
    → slice_get (dropped_of job reads fence) index ≡ Some version → slice_get (dropped_of job reads other) place ≡ Some version
    → (fence ≡ other) × (index ≡ place)

-- and each version that is used up at a fence is dropped there or at an earlier one
abbrev pub UsedUpIsDropped : Type 0
UsedUpIsDropped =
    (job : DistributedJob) (reads : Readers) (fence version : ℕ) → is_used_up job reads fence version ≡ true
    → (earlier : ℕ) × (earlier ≤ fence) × Contains (dropped_of job reads earlier) version
