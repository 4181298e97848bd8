-- Look-ups that wait for entries, in the order in which they came.
use Rattle.std.specs.Prelude.{ℕ, not, List, [], ◌∷◌, Option, None, Some, map, if◌then◌else◌}
use Rattle.std.specs.List.{filter}
use Rattle.app_core.specs.declared.CellName.{CellName}
use Rattle.future_cell.specs.declared.Callback.{Callback}
use Rattle.container.specs.declared.look_ups.LookUp.{LookUp}
use Rattle.container.specs.Names.{same_name, is_of}

-- the callbacks that wait for a name, in order
abbrev pub callbacks_of : CellName → List LookUp → List Callback
callbacks_of name waiting = map (λ l. l.callback) (filter (λ l. same_name l.name name) waiting)

-- the look-ups that wait for other names
abbrev pub others : CellName → List LookUp → List LookUp
others name waiting = filter (λ l. not (same_name l.name name)) waiting

-- the name of the first look-up that waits for an entry of the version
abbrev pub first_waited : ℕ → List LookUp → Option CellName
first_waited version [] = None
first_waited version (l ∷ ls) = if is_of version l.name then Some l.name else first_waited version ls
