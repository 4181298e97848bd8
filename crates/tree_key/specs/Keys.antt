-- Keys of a dyadic tree: a level and a translation. A key stands for a box of cells.
use Rattle.std.specs.Prelude.{◌≡◌, ℕ, ◌+◌, ◌-◌, ◌*◌, ◌/◌, ◌^◌, ◌<◌, ◌≤◌, Bool, cond, Option, Some, None, if◌then◌else◌, ◌==◌}
use Rattle.std.specs.Ordering.{nat_cmp, ordering_then}
use Rattle.std.specs.declared.cmp.Ordering.{Ordering}

-- a key: its level, from 0 at the root, and its translation, from 0 at the left
pub record Key : Type 0 where
  pub level : ℕ
  pub at : ℕ

-- what the numbers of a key keep
pub record IsKey (k : Key) : Type 0 where
  pub level : k.level ≤ 16
  pub at : k.at < 2 ^ k.level

-- the key whose box is all cells
abbrev pub root : Key
root = record { level = 0; at = 0 }

-- the left or the right half of a key
abbrev pub child : Key → Bool → Key
child k right = record { level = k.level + 1; at = 2 * k.at + cond right 1 0 }

-- the key of which this one is a half; none for the root
abbrev pub parent : Key → Option Key
parent k = if k.level == 0 then None else Some (record { level = k.level - 1; at = k.at / 2 })

-- the key of a level, at most the key's own, whose box has the key's
abbrev pub ancestor : Key → ℕ → Key
ancestor k level = record { level = level; at = k.at / 2 ^ (k.level - level) }

-- the second is the first, or lies below it
pub record Contains (k other : Key) : Type 0 where
  pub level : k.level ≤ other.level
  pub over : ancestor other k.level ≡ k

-- a number of its own for each key, in the keys' order; the root has 1
abbrev pub place_of : Key → ℕ
place_of k = 2 ^ k.level + k.at

-- at a depth, the number of cells in the box of a key, and the first of them
abbrev pub width : ℕ → Key → ℕ
width depth k = 2 ^ (depth - k.level)

abbrev pub first_cell : ℕ → Key → ℕ
first_cell depth k = k.at * width depth k

-- the cell lies in the box of the key
pub record InBox (depth : ℕ) (k : Key) (cell : ℕ) : Type 0 where
  pub from : first_cell depth k ≤ cell
  pub below : cell < first_cell depth k + width depth k

-- the key of a level whose box, at a depth, has the cell
abbrev pub key_over : ℕ → ℕ → ℕ → Key
key_over depth level cell = record { level = level; at = cell / 2 ^ (depth - level) }

-- the order of keys: by level, and then by translation
abbrev pub key_cmp : Key → Key → Ordering
key_cmp a b = ordering_then (nat_cmp a.level b.level) (nat_cmp a.at b.at)
