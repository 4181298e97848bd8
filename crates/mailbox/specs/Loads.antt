-- What is right of the load of a message.
use Rattle.std.specs.Prelude.{◌≡◌, ◌↔◌, List, [], Option, IsSome}
use Rattle.app_core.specs.declared.label.Label.{Label}
use Rattle.mailbox.specs.declared.load.Load.{Load}
use Rattle.mailbox.specs.declared.load.Load.TheVariants.{Unit, Give}

-- a unit is one of the application and needs no future, and it is known who created its due exactly where it has one; a
-- value is right for its future
abbrev pub IsRightLoad : {U V : Type 0} → (U → Type 0) → (U → Option Label) → (U → List Label) → (Label → V → Type 0) → Load U V → Type 0
IsRightLoad unit due needs value (Unit u by) = unit u × (IsSome by ↔ IsSome (due u)) × (needs u ≡ [])
IsRightLoad unit due needs value (Give l by v) = value l v
