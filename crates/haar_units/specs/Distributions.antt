-- Keys that are distributed over ranks, and commands that visit and erase sets of keys: what `tree_model` says of these sets is
-- what the units of the commands do.
use Rattle.std.specs.Prelude.{◌≡◌, ◌↔◌, ℕ, ◌+◌, ◌^◌, ◌<◌, ◌≤◌, nat_lt, Bool, true, false, ◌&&◌, not, ◌==◌, if◌then◌else◌, length, Some, Contains}
use Rattle.tree_key.specs.Keys.{Key, root, child, place_of}
use Rattle.owner_map.specs.declared.map.OwnerMap.{OwnerMap}
use Rattle.owner_map.specs.Owners.{owner}
use Rattle.tree_model.specs.Shapes.{IsShape, is_key_of, key_count}
use Rattle.tree_model.specs.Totals.{Distribution, Visits, visits_total, size_total}
use Rattle.haar_units.specs.Jobs.{Operation, DistributedJob, operation_at, is_on_trees}
use Rattle.haar_units.specs.Jobs.Operation.{Coarsen, Size}
use Rattle.haar_units.specs.Traversals.{Traversal, IsTraversal}
use Rattle.haar_units.specs.Bins.{holds}
use Rattle.haar_units.specs.Totals.{sum_to, tasks_of, messages_of}
use Rattle.haar_units.specs.Places.{key_at, has_place}

-- so many ranks that own keys by an owner map
abbrev pub by_map : OwnerMap → ℕ → Distribution
by_map map ranks = record { ranks = ranks; owner = λ k. owner map k ranks }

-- the rank that owns the key of a place; rank 0 for place 0, which has no key
abbrev pub place_owner : Distribution → ℕ → ℕ
place_owner distribution place = if nat_lt 0 place then distribution.owner (key_at place) else 0

-- the ranks and owners of a job are those of a distribution
pub record IsDistributed (distribution : Distribution) (job : DistributedJob) : Type 0 where
  pub ranks : job.ranks ≡ distribution.ranks
  pub owner : (place : ℕ) → job.owner place ≡ place_owner distribution place

-- a command visits and erases these keys
pub record IsOverKeys (traversal : Traversal) (command : ℕ) (keys : Visits) : Type 0 where
  pub visits : (place : ℕ) → traversal.visits command place ≡ has_place keys.visited place
  pub erases : (place : ℕ) → traversal.erases command place ≡ has_place keys.erased place

-- what a command visits is a shape, and what it erases are some of its keys other than the root, both children of a key or
-- none
pub record AreVisits (depth : ℕ) (keys : Visits) : Type 0 where
  pub shape : IsShape depth keys.visited
  pub visited : (k : Key) → keys.erased k ≡ true → keys.visited k ≡ true
  pub root : keys.erased root ≡ false
  pub both : (k : Key) → keys.erased (child k true) ≡ keys.erased (child k false)

-- such a command meets `IsTraversal`, if only `coarsen` erases keys
abbrev pub KeysAreTraversals : Type 0
KeysAreTraversals =
    (job : DistributedJob) (traversal : Traversal) (depth command : ℕ) (keys : Visits) → AreVisits depth keys → IsOverKeys traversal command keys
    → ((k : Key) → keys.erased k ≡ true → operation_at job command ≡ Some Coarsen)
    → IsTraversal job traversal (2 ^ (depth + 1)) command

-- the tasks and messages of a command on trees are the model's total of the keys that it visits and erases
abbrev pub TotalsAreOfKeys : Type 0
TotalsAreOfKeys =
    (distribution : Distribution) (job : DistributedJob) (traversal : Traversal) (depth command : ℕ) (operation : Operation) (keys : Visits)
    → IsDistributed distribution job → is_on_trees operation ≡ true → IsOverKeys traversal command keys
    → (tasks_of job traversal (2 ^ (depth + 1)) command operation ≡ (visits_total distribution depth keys).tasks)
    × (messages_of job traversal (2 ^ (depth + 1)) command operation ≡ (visits_total distribution depth keys).messages)

-- those of `size` are the model's total of `size`
abbrev pub SizesAreOfRanks : Type 0
SizesAreOfRanks =
    (distribution : Distribution) (job : DistributedJob) (traversal : Traversal) (bound command : ℕ) → IsDistributed distribution job
    → (tasks_of job traversal bound command Size ≡ (size_total distribution).tasks) × (messages_of job traversal bound command Size ≡ (size_total distribution).messages)

-- whether a rank holds the entry of a key: the key is visited and not erased, and the rank owns it
abbrev pub is_kept : Distribution → Visits → ℕ → Key → Bool
is_kept distribution keys rank k = keys.visited k && (not (keys.erased k) && (distribution.owner k == rank))

-- the places that a rank holds are just those of such keys
pub record HoldsKeys (distribution : Distribution) (job : DistributedJob) (traversal : Traversal) (depth version : ℕ) (keys : Visits) (rank : ℕ) : Type 0 where
  pub keys_held : (k : Key) → is_key_of depth k ≡ true → Contains (holds job traversal (2 ^ (depth + 1)) rank version) (place_of k) ↔ (is_kept distribution keys rank k ≡ true)
  pub only_keys : (place : ℕ) → Contains (holds job traversal (2 ^ (depth + 1)) rank version) place → (k : Key) × (is_key_of depth k ≡ true) × (place_of k ≡ place)
  pub number : length (holds job traversal (2 ^ (depth + 1)) rank version) ≡ key_count depth (is_kept distribution keys rank)

abbrev pub HoldsAreOfKeys : Type 0
HoldsAreOfKeys =
    (distribution : Distribution) (job : DistributedJob) (traversal : Traversal) (depth version : ℕ) (keys : Visits) (rank : ℕ)
    → IsDistributed distribution job → IsOverKeys traversal version keys → HoldsKeys distribution job traversal depth version keys rank

-- the numbers of these keys at all ranks add up to the number of keys that are visited and not erased
abbrev pub CountsAddUp : Type 0
CountsAddUp =
    (distribution : Distribution) (depth : ℕ) (keys : Visits) → ((k : Key) → is_key_of depth k ≡ true → distribution.owner k < distribution.ranks)
    → sum_to (λ rank. key_count depth (is_kept distribution keys rank)) distribution.ranks ≡ key_count depth (λ k. keys.visited k && not (keys.erased k))

-- by an owner map, rank 0 owns the root, and each key is owned by one of the ranks
abbrev pub RootIsAtZero : Type 0
RootIsAtZero = (map : OwnerMap) (ranks : ℕ) → 1 ≤ ranks → place_owner (by_map map ranks) 1 ≡ 0

abbrev pub OwnersAreRanks : Type 0
OwnersAreRanks = (map : OwnerMap) (ranks depth : ℕ) (k : Key) → 1 ≤ ranks → depth ≤ 16 → is_key_of depth k ≡ true → (by_map map ranks).owner k < ranks
