-- Which rank owns a key, by each owner map.
use Rattle.std.specs.Prelude.{ℕ, ◌+◌, ◌*◌, ◌/◌, ◌%◌, ◌^◌, Bool, ◌||◌, ◌==◌, List, Option, Some, None, if◌then◌else◌}
use Rattle.std.specs.Prelude.{nat_le, codes}
use Rattle.std.specs.Option.{unwrap_or}
use Rattle.std.specs.Str.{bytes_eq}
use Rattle.tree_key.specs.Keys.{Key, parent}
use Rattle.owner_map.specs.declared.map.OwnerMap.{OwnerMap}
use Rattle.owner_map.specs.declared.map.OwnerMap.TheVariants.{Block, Spread, Level}

-- the map of this name
abbrev pub map_of_word : List ℕ → Option OwnerMap
map_of_word word =
    if bytes_eq word (codes "block") then Some Block
    else if bytes_eq word (codes "spread") then Some Spread
    else if bytes_eq word (codes "level") then Some Level
    else None

-- neighbours on a level are three ranks apart, and the first keys of two levels seven, round and round
abbrev pub spread : Key → ℕ → ℕ
spread k ranks = (7 * k.level + 3 * k.at) % ranks

-- the keys of the upper levels, and of odd ones, are spread by themselves, the others with their parent
abbrev pub is_spread_by_itself : Key → Bool
is_spread_by_itself k = nat_le k.level 3 || (k.level % 2 == 1)

-- which of this many ranks owns the key
abbrev pub owner : OwnerMap → Key → ℕ → ℕ
owner Block k ranks = k.at * ranks / 2 ^ k.level
owner Spread k ranks = spread k ranks
owner Level k ranks = if is_spread_by_itself k then spread k ranks else spread (unwrap_or (parent k) k) ranks
