-- How a map gets the numbers of a tree: box by box.
use Rattle.std.specs.Prelude.{◌≡◌, ◌-◌, ◌/◌, ◌^◌, Bool, ◌&&◌, ◌==◌, nat_le, Option, Some, None, ℤ, if◌then◌else◌}
use Rattle.std.specs.BTreeMap.{BTreeMap}
use Rattle.tree_key.specs.Keys.{Key}
use Rattle.tree_operations.specs.Numbers.{number_at, same_key}

-- whether a key is the top one, or lies below it
abbrev pub under : Key → Key → Bool
under top k = nat_le top.level k.level && (k.at / 2 ^ (k.level - top.level) == top.at)

-- the newer number where there is one, and else the one before
abbrev pub over : Option ℤ → Option ℤ → Option ℤ
over None before = before
over (Some number) before = Some number

-- the numbers at the top key and below it
abbrev pub within : Key → (Key → Option ℤ) → Key → Option ℤ
within top numbers k = if under top k then numbers k else None

-- the numbers at other keys than the top one
abbrev pub below : Key → (Key → Option ℤ) → Key → Option ℤ
below top numbers k = if same_key top k then None else numbers k

-- at the top key and below it, the map now has these numbers, where there is one; and else what it had
pub record Fills (top : Key) (numbers : Key → Option ℤ) (old new : BTreeMap Key ℤ) : Type 0 where
  pub at : (k : Key) → number_at new k ≡ over (within top numbers k) (number_at old k)
