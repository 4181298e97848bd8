-- The fence of the last command that uses a version: writes or reads it.
use Rattle.std.specs.Prelude.{ℕ, ◌||◌, List, map, max, if◌then◌else◌, Vec}
use Rattle.std.specs.List.{fold}
use Rattle.std.specs.declared.alloc.Global.{Global}
use Rattle.job_data.specs.declared.step.Step.{Step}
use Rattle.job_data.specs.Drops.{reads_version, writes_version}

-- with one command more
abbrev pub use_after : ℕ → ℕ → Step → ℕ
use_after version last s = if (writes_version version s || reads_version version s) then max last s.fence else last

abbrev pub last_use : List Step → ℕ → ℕ
last_use steps version = fold (use_after version) 0 steps

-- lists, as the lists of their items
abbrev pub items_in : List (Vec ℕ Global) → List (List ℕ)
items_in lists = map (λ v. v.items) lists
