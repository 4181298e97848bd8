-- What is right in a bin of an application.
use Rattle.std.specs.Prelude.{ℕ, ◌%◌, List, Contains, IfSome}
use Rattle.std.specs.List.{AllByRecursion}
use Rattle.std.specs.FinMap as fin
use Rattle.app_core.specs.declared.CellName.{CellName}
use Rattle.container.specs.declared.look_ups.LookUp.{LookUp}
use Rattle.container.specs.Names.{name_cmp}

-- the number of the bin that a name belongs to
abbrev pub bin_number : CellName → ℕ
bin_number name = name.place % 16

-- each entry has a right cell
abbrev pub AreRight : {C : Type 0} → (CellName → C → Type 0) → fin.FinMap name_cmp C → Type 0
AreRight right_cell entries = (name : CellName) → IfSome (fin.get entries name) (λ cell. right_cell name cell)

-- some unit of the application reads the entry
abbrev pub IsRead : {U : Type 0} → (U → Type 0) → (U → List CellName) → CellName → Type 0
IsRead {U} is_unit reads_of name = (unit : U) × is_unit unit × Contains (reads_of unit) name

-- units of the application read the entries that are waited for
abbrev pub AreRead : {U : Type 0} → (U → Type 0) → (U → List CellName) → List LookUp → Type 0
AreRead is_unit reads_of waiting = AllByRecursion (λ l. IsRead is_unit reads_of l.name) waiting
