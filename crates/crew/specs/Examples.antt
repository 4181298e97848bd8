-- Commands and results for the examples.
use Rattle.std.specs.Prelude.{ℕ, List, [], ◌∷◌, Option, Some, None, if◌then◌else◌, ◌==◌}
use Rattle.app_core.specs.declared.label.Label.{Label}
use Rattle.app_core.specs.declared.outline.CommandKind.{CommandKind}
use Rattle.app_core.specs.declared.outline.CommandKind.TheVariants.{Work, Fence}

-- work, a fence, work
abbrev pub three : List CommandKind
three = Work ∷ Fence ∷ Work ∷ []

-- the result of a work command of these: its place is ten times the number of the command
abbrev pub tenfold : ℕ → Option Label
tenfold command = if command == 1 then Some (record { command = 1; part = 0; place = 10 }) else if command == 3 then Some (record { command = 3; part = 0; place = 30 }) else None
