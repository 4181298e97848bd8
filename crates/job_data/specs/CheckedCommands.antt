-- A command after those before it, or the lowest kind of fault that it has there.
use Rattle.std.specs.Prelude.{ℕ, ◌&&◌, Bool, List, Option, Some, None, Result, Ok, Err, if◌then◌else◌}
use Rattle.tree_model.specs.Commands.{Command}
use Rattle.job_data.specs.declared.fault_kind.FaultKind.{FaultKind}
use Rattle.job_data.specs.declared.fault_kind.FaultKind.TheVariants.{BeyondLimits, UnknownTree, WrongForm, FarFromFence, SizeBeforeFence}
use Rattle.job_data.specs.Checks.{has_numbers, has_room, has_trees, has_forms, is_near_fence, has_fence}

-- what comes where a check holds, and else the kind of fault
abbrev pub checked : {A : Type 0} → FaultKind → Bool → Result A FaultKind → Result A FaultKind
checked kind holds next = if holds then next else Err kind

-- a value, where there is no kind of fault
abbrev pub unless_fault : {A : Type 0} → Option FaultKind → A → Result A FaultKind
unless_fault None x = Ok x
unless_fault (Some kind) x = Err kind

-- a command after those before it, or the lowest kind of fault that it has
abbrev pub checked_command : ℕ → List Command → Command → Result Command FaultKind
checked_command depth before c =
    checked BeyondLimits (has_numbers depth c && has_room before c)
    (checked UnknownTree (has_trees before c)
    (checked WrongForm (has_forms before c)
    (checked FarFromFence (is_near_fence before c)
    (checked SizeBeforeFence (has_fence before c) (Ok c)))))
