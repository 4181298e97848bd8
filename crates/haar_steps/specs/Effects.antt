-- The effects of what units decide for.
use Rattle.std.specs.Prelude.{ℕ, nat_lt, if◌then◌else◌, false, true, List, [], ◌∷◌, ◌++◌, Option, Some, None, ℤ}
use Rattle.app_core.specs.declared.Label.{Label}
use Rattle.app_core.specs.declared.Effect.{Effect}
use Rattle.app_core.specs.declared.Effect.TheVariants.{Spawn, SpawnNeeding, Give, Put, Erase}
use Rattle.tree_key.specs.Keys.{Key, child, place_of}
use Rattle.haar_node.specs.declared.Node.{Node}
use Rattle.haar_node.specs.declared.Node.TheVariants as node
use Rattle.haar_units.specs.Units.{key_future, entry}
use Rattle.haar_base.specs.declared.unit.Sides.{Sides}
use Rattle.haar_base.specs.declared.unit.Held.{Held}
use Rattle.haar_base.specs.declared.unit.Unit.{Unit}
use Rattle.haar_base.specs.declared.unit.Unit.TheVariants as unit
use Rattle.haar_base.specs.declared.value.Value.{Value}
use Rattle.haar_base.specs.declared.value.Value.TheVariants as value
use Rattle.haar_base.specs.declared.decisions.Visit.{Visit}
use Rattle.haar_base.specs.declared.decisions.Visit.TheVariants as visit
use Rattle.haar_base.specs.declared.decisions.Combination.{Combination}
use Rattle.haar_base.specs.declared.decisions.Combination.TheVariants as combination

-- a spawn of a unit that needs these futures; other effects as they are
abbrev pub needing : {U V C : Type 0} → List Label → Effect U V C → Effect U V C
needing labels (Spawn u) = SpawnNeeding u labels
needing labels (SpawnNeeding u more) = SpawnNeeding u more
needing labels (Give l v) = Give l v
needing labels (Put n c) = Put n c
needing labels (Erase n) = Erase n

abbrev pub HaarEffect : Type 0
HaarEffect = Effect Unit Value Node

-- the put of a key's node, where there is one
abbrev pub puts : ℕ → Key → Option Node → List HaarEffect
puts command key None = []
puts command key (Some n) = Put (entry command (place_of key)) n ∷ []

abbrev pub gives : ℕ → Key → Value → HaarEffect
gives command key v = Give (key_future command (place_of key)) v

abbrev pub spawn_down : ℕ → Key → Sides → HaarEffect
spawn_down command key sides = Spawn (unit.Down (record { command = command; key = key; first = sides.first; second = sides.second }))

-- the unit that combines what the children of a key give
abbrev pub spawn_up : ℕ → Key → Held → HaarEffect
spawn_up command key held = SpawnNeeding (unit.Up (record { command = command; key = key; held = held }))
    (key_future command (place_of (child key false)) ∷ key_future command (place_of (child key true)) ∷ [])

-- the units of the left child, of the right child, and of the key itself
abbrev pub split_effects : ℕ → Key → Sides → Sides → Held → List HaarEffect
split_effects command key left right held = spawn_down command (child key false) left ∷ spawn_down command (child key true) right ∷ spawn_up command key held ∷ []

-- of a down unit (a key of the deepest level has no children): the put, and then the give or those units
abbrev pub visit_effects : ℕ → Key → Visit → List HaarEffect
visit_effects command key (visit.Give n v) = puts command key n ++ gives command key v ∷ []
visit_effects command key (visit.Split n left right held) =
    if nat_lt key.level 16 then puts command key n ++ split_effects command key left right held else gives command key value.Bad ∷ []

abbrev pub spawn_clear : ℕ → Key → HaarEffect
spawn_clear command key = Spawn (unit.Clear command key)

-- of an up unit: the put, the units that erase both children, and the give
abbrev pub combination_effects : ℕ → Key → Combination → List HaarEffect
combination_effects command key (combination.Give n v) = puts command key n ++ gives command key v ∷ []
combination_effects command key (combination.Merge sum) =
    if nat_lt key.level 16
    then Put (entry command (place_of key)) (node.Leaf sum) ∷ spawn_clear command (child key false) ∷ spawn_clear command (child key true) ∷ gives command key (value.Sum sum) ∷ []
    else gives command key value.Bad ∷ []
