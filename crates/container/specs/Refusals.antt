-- What a refused insertion hands back.
use Rattle.container.specs.declared.refusals.InsertError.{InsertError}
use Rattle.container.specs.declared.refusals.InsertError.TheVariants.{Present, OutOfMemory}

-- the cell that it hands back
abbrev pub refused_cell : {C : Type 0} → InsertError C → C
refused_cell (Present cell) = cell
refused_cell (OutOfMemory cell) = cell
