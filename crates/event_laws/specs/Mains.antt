-- What a main's program tells of the units that the main spawned.
use Rattle.std.specs.Prelude.{◌≡◌, ℕ, Bool, false, ◌&&◌, ◌==◌, List, take}
use Rattle.std.specs.List.{list_any}
use Rattle.app_core.specs.declared.label.Label.{Label}
use Rattle.app_core.specs.declared.outline.Outline.TheVariants as of
use Rattle.app_core.specs.Outlines.{is_due, same_label}
use Rattle.event_lists.specs.declared.mark.Mark.{Mark}
use Rattle.event_lists.specs.declared.future.Bringer.TheVariants.{Main as main_at}
use Rattle.event_lists.specs.Events.{main_of, part}
use Rattle.event_lists.specs.Futures.{was_due, was_needed}
use Rattle.event_lists.specs.Legal.{Legal}
use Rattle.event_laws.specs.Follows.{TaskEffects, Doing, Start, FollowsBy, program_at, deeds}

-- whether a main's doing starts a unit with this due
abbrev pub starts_due : Label → Doing → Bool
starts_due d (Start (of.Spawn u o ns h)) = is_due d o
starts_due d _ = false

-- whether it starts a unit with this need at the main's own rank: only there a unit is submitted with its needs
abbrev pub starts_need : ℕ → Label → Doing → Bool
starts_need r d (Start (of.Spawn u o ns h)) = (h == r) && list_any (λ m. same_label d m) ns
starts_need r d _ = false

-- what the main of a rank has done of its program
abbrev pub done_by : ℕ → List Doing → List Mark → List Doing
done_by r program log = take (deeds (part (main_of r) log)) (program_at r program)

-- a main spawned with just the dues of the starts that it has done
abbrev pub MainsDuesAreStarts : Type 0
MainsDuesAreStarts =
    (ranks workers : ℕ) (program : List Doing) (task_effects : TaskEffects) (log : List Mark) → Legal ranks workers log → FollowsBy program task_effects log
    → (r : ℕ) (d : Label) → was_due (main_at r) d log ≡ list_any (starts_due d) (done_by r program log)

-- and with just their needs
abbrev pub MainsNeedsAreStarts : Type 0
MainsNeedsAreStarts =
    (ranks workers : ℕ) (program : List Doing) (task_effects : TaskEffects) (log : List Mark) → Legal ranks workers log → FollowsBy program task_effects log
    → (r : ℕ) (d : Label) → was_needed (main_at r) d log ≡ list_any (starts_need r d) (done_by r program log)
