-- What holds of the owners of all keys.
use Rattle.std.specs.Prelude.{◌≡◌, ℕ, ◌+◌, ◌*◌, ◌<◌, ◌≤◌, false, Some}
use Rattle.tree_key.specs.Keys.{Key, IsKey, root, child, parent}
use Rattle.owner_map.specs.declared.map.OwnerMap.{OwnerMap}
use Rattle.owner_map.specs.declared.map.OwnerMap.TheVariants.{Block, Level}
use Rattle.owner_map.specs.Owners.{owner}

-- an owner is one of the ranks
abbrev pub OwnersAreRanks : Type 0
OwnersAreRanks = (map : OwnerMap) (k : Key) (ranks : ℕ) → IsKey k → 1 ≤ ranks → owner map k ranks < ranks

-- the root belongs to rank 0
abbrev pub RootIsAtZero : Type 0
RootIsAtZero = (map : OwnerMap) (ranks : ℕ) → 1 ≤ ranks → owner map root ranks ≡ 0

-- in blocks, a left child belongs to its parent's owner
abbrev pub LeftStaysInItsBlock : Type 0
LeftStaysInItsBlock = (k : Key) (ranks : ℕ) → owner Block (child k false) ranks ≡ owner Block k ranks

-- in blocks, the ranks own the keys of a level from left to right
abbrev pub BlocksAreInOrder : Type 0
BlocksAreInOrder = (a b : Key) (ranks : ℕ) → a.level ≡ b.level → a.at ≤ b.at → owner Block a ranks ≤ owner Block b ranks

-- by levels, a key of level 4, 6, 8 and so on belongs to its parent's owner
abbrev pub PairsOfLevelsStayTogether : Type 0
PairsOfLevelsStayTogether = (k p : Key) (half ranks : ℕ) → k.level ≡ 2 * half + 4 → parent k ≡ Some p → owner Level k ranks ≡ owner Level p ranks
