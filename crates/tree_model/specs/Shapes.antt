-- Shapes: finite sets of keys that are binary trees, each with its leaves.
use Rattle.std.specs.Prelude.{◌≡◌, ℕ, ◌+◌, ◌^◌, Bool, true, false, ◌&&◌, not, nat_le, nat_lt, List, length, map, filter}
use Rattle.std.specs.List.{flat_map, range_with_len}
use Rattle.tree_key.specs.Keys.{Key, root, child}

-- whether the numbers are those of a key of a level at most `depth`
abbrev pub is_key_of : ℕ → Key → Bool
is_key_of depth k = nat_le k.level depth && nat_lt k.at (2 ^ k.level)

-- the keys of a level from left to right, and all keys down to a depth in their order
abbrev pub keys_on : ℕ → List Key
keys_on level = map (λ at. record { level = level; at = at }) (range_with_len 0 (2 ^ level))

abbrev pub keys : ℕ → List Key
keys depth = flat_map keys_on (range_with_len 0 (depth + 1))

-- a shape at a depth, as a test of keys: it has the root, the parent of each of its keys, and both children of a key or none
pub record IsShape (depth : ℕ) (shape : Key → Bool) : Type 0 where
  pub keys : (k : Key) → shape k ≡ true → is_key_of depth k ≡ true
  pub root : shape root ≡ true
  pub parents : (k : Key) (right : Bool) → shape (child k right) ≡ true → shape k ≡ true
  pub children : (k : Key) → shape (child k true) ≡ shape (child k false)

-- the number of the keys of a shape
abbrev pub key_count : ℕ → (Key → Bool) → ℕ
key_count depth shape = length (filter shape (keys depth))

-- a key of the shape without children there
abbrev pub is_leaf : (Key → Bool) → Key → Bool
is_leaf shape k = shape k && not (shape (child k false))

-- a key of the shape with children there
abbrev pub is_interior : (Key → Bool) → Key → Bool
is_interior shape k = shape k && shape (child k false)
