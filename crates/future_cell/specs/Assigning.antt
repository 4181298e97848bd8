-- What a refused assignment says.
use Rattle.future_cell.specs.declared.cell.AssignError.{AssignError}
use Rattle.future_cell.specs.declared.cell.AssignError.TheVariants.{Already, OutOfMemory}

-- the value that it hands back
abbrev pub refused_value : {T : Type 0} → AssignError T → T
refused_value (Already value) = value
refused_value (OutOfMemory value) = value

-- it says that the future has a value
abbrev pub IsAlready : {T : Type 0} → AssignError T → Type 0
IsAlready (Already value) = Unit {0}
IsAlready (OutOfMemory value) = ⊥
