-- Runs of an application.
use Rattle.std.specs.Prelude.{ℕ, List}
use Rattle.app_core.specs.declared.facts.Facts as facts
use Rattle.event_lists.specs.declared.mark.Mark.{Mark}
use Rattle.event_laws.specs.Follows.{TaskEffects, IsRun, program_from}

-- a run of this application, whose facts these are, on the ranks that it is made for, with so many workers each
abbrev pub IsRunOf : {A : Type 0} → facts.Ghosts A → A → ℕ → TaskEffects → List Mark → Type 0
IsRunOf has app workers task_effects log =
    IsRun (has.ranks_of app) workers (program_from 1 (has.kinds_of app) (has.starts_of app)) (has.may_do app) task_effects log
