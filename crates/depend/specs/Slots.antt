-- The slots of a task's arguments, in order, each empty or filled.
use Rattle.std.specs.Prelude.{◌≢◌, ℕ, ◌<◌, List, Option, None, length, All, IsSome, IsNone, count_by, is_none}
use Rattle.std.specs.List.{slice_index_or}

-- how many slots are empty
abbrev pub empty_count : {T : Type 0} → List (Option T) → ℕ
empty_count slots = count_by is_none slots

-- every slot is filled
abbrev pub IsReady : {T : Type 0} → List (Option T) → Type 0
IsReady slots = All IsSome slots

abbrev pub IsFilled : {T : Type 0} → List (Option T) → ℕ → Type 0
IsFilled slots index = IsSome (slice_index_or slots index None)

-- the slot is empty, and every other is filled
pub record IsLastEmpty {T : Type 0} (slots : List (Option T)) (index : ℕ) : Type 0 where
  pub here : IsNone (slice_index_or slots index None)
  pub others : (k : ℕ) → k < length slots → k ≢ index → IsFilled slots k
