-- Look-ups that wait, as a bin has them: a log of them in the order in which they came, where those that were taken out
-- have left empty slots, and for each name the places of its look-ups in the log.
use Rattle.std.specs.Prelude.{◌≡◌, ℕ, suc, cond, List, [], ◌∷◌, ◌++◌, Option, None, Some, map, slice_set}
use Rattle.std.specs.List.{slice_index_or}
use Rattle.std.specs.HashMap as hash
use Rattle.std.specs.HashMap.{HashMap}
use Rattle.app_core.specs.declared.CellName.{CellName}
use Rattle.future_cell.specs.declared.Callback.{Callback}
use Rattle.container.specs.declared.look_ups.LookUp.{LookUp}
use Rattle.container.specs.declared.wait_log.Places.{Places}
use Rattle.container.specs.Names.{same_name}

-- the look-ups in the log, in order
abbrev pub left_in : List (Option LookUp) → List LookUp
left_in [] = []
left_in (None ∷ slots) = left_in slots
left_in (Some l ∷ slots) = l ∷ left_in slots

-- the places in the log of the look-ups that wait for a name, in order
abbrev pub places_of : CellName → List (Option LookUp) → List ℕ
places_of name [] = []
places_of name (None ∷ slots) = map suc (places_of name slots)
places_of name (Some l ∷ slots) = cond (same_name l.name name) (0 ∷ map suc (places_of name slots)) (map suc (places_of name slots))

-- the places of one name, and those that a map has for a name
abbrev pub listed : Places → List ℕ
listed p = p.first ∷ p.later.items

abbrev pub placed : Option Places → List ℕ
placed None = []
placed (Some p) = listed p

-- the map has just the places of each name
abbrev pub ArePlaced : {S : Type 0} → List (Option LookUp) → HashMap CellName Places S → Type 0
ArePlaced slots places = (name : CellName) → placed (hash.get same_name places name) ≡ places_of name slots

-- the callbacks at these places of the log, in order
abbrev pub callback_in : Option LookUp → List Callback
callback_in None = []
callback_in (Some l) = l.callback ∷ []

abbrev pub callbacks_at : List (Option LookUp) → List ℕ → List Callback
callbacks_at slots [] = []
callbacks_at slots (i ∷ is) = callback_in (slice_index_or slots i None) ++ callbacks_at slots is

-- the log with empty slots at these places
abbrev pub emptied : List (Option LookUp) → List ℕ → List (Option LookUp)
emptied slots [] = slots
emptied slots (i ∷ is) = emptied (slice_set slots i None) is

-- the second map has one place more for a name, after the others of that name, and else what the first has
abbrev pub AddsPlace : {S : Type 0} → HashMap CellName Places S → HashMap CellName Places S → CellName → ℕ → Type 0
AddsPlace old new name place =
    (q : CellName) → placed (hash.get same_name new q) ≡ cond (same_name name q) (placed (hash.get same_name old q) ++ place ∷ []) (placed (hash.get same_name old q))

-- the second map has the places of the first
abbrev pub HasTheSamePlaces : {S : Type 0} → HashMap CellName Places S → HashMap CellName Places S → Type 0
HasTheSamePlaces old new = (q : CellName) → placed (hash.get same_name new q) ≡ placed (hash.get same_name old q)
