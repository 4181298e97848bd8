-- The fourth part of what an event asks of the list before it: puts and erases are on bins' lanes alone, in turn.
use Rattle.std.specs.Prelude.{◌≡◌, Bool, true, false, not, ◌&&◌, ◌||◌, ◌==◌, List, [], ◌∷◌}
use Rattle.app_core.specs.declared.label.CellName.{CellName}
use Rattle.event_lists.specs.declared.lane.LaneName.{LaneName}
use Rattle.event_lists.specs.declared.event.Event.{Event}
use Rattle.event_lists.specs.declared.event.Event.TheVariants.{Put, Erased}

abbrev pub same_name : CellName → CellName → Bool
same_name a b = (a.version == b.version) && (a.place == b.place)

-- whether the lane's last event of this name is a put
abbrev pub is_put : CellName → List Event → Bool
is_put c [] = false
is_put c (Put d ∷ es) = same_name c d || is_put c es
is_put c (Erased d ∷ es) = not (same_name c d) && is_put c es
is_put c (_ ∷ es) = is_put c es

abbrev pub Bins : LaneName → List Event → Event → Type 0
Bins l mine (Put c) = (l.bin ≡ true) × (is_put c mine ≡ false)
Bins l mine (Erased c) = (l.bin ≡ true) × (is_put c mine ≡ true)
Bins l mine _ = l.bin ≡ false
