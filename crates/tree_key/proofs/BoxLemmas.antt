-- Lemmas that crates above use: which cells are in which boxes.
use Rattle.std.proofs.Common.{◌≡◌, ℕ, ◌+◌, ◌-◌, ◌*◌, ◌/◌, ◌^◌, ◌<◌, ◌≤◌, ◌⊎◌, inl, inr, Bool, true, false, ap, sym, ◌∙◌, subst, arith, refl}
use Rattle.std.proofs.lemmas.Bool.{cases_lt}
use Rattle.std.proofs.lemmas.Nat.{pow_pos, pow_below, shr_below}
use Rattle.tree_key.specs.Keys.{Key, child, ancestor, Contains, width, first_cell, InBox, key_over}
use Rattle.tree_key.specs.Laws.{BoxesNest, ChildrenHalveTheBox, OneKeyOnEachLevel}
use Rattle.tree_key.proofs.PowerLemmas.{quotient_from_bounds, from_quotient, below_quotient, quotient_in_steps, twice}

-- a key from its numbers
pub same_key : (a b : Key) → a.level ≡ b.level → a.at ≡ b.at → a ≡ b
same_key a b level at = λ i. record { level = level i; at = at i }

-- a cell is in a box exactly where its quotient by the width is the key's place
pub place_from_cell : (depth : ℕ) (k : Key) (cell : ℕ) → InBox depth k cell → cell / width depth k ≡ k.at
place_from_cell depth k cell inside = quotient_from_bounds (width depth k) k.at cell inside.from inside.below

pub cell_from_place : (depth : ℕ) (k : Key) (cell : ℕ) → cell / width depth k ≡ k.at → InBox depth k cell
cell_from_place depth k cell e = record {
  from = from_quotient (width depth k) k.at cell e;
  below = below_quotient (width depth k) k.at cell (pow_pos (depth - k.level)) e;
}

-- the place of a cell's key on a higher level, from its place on a lower one
place_above : (depth high low cell : ℕ) → high ≤ low → low ≤ depth → cell / 2 ^ (depth - high) ≡ cell / 2 ^ (depth - low) / 2 ^ (low - high)
place_above depth high low cell order within =
    let apart : depth - high - (depth - low) ≡ low - high = omega arith in
    quotient_in_steps cell (depth - low) (depth - high) (omega arith) ∙ ap (λ n. cell / 2 ^ (depth - low) / 2 ^ n) apart

-- the cells of a key below are cells of the key
pub cells_from_contains : (depth : ℕ) (k other : Key) → other.level ≤ depth → Contains k other → (cell : ℕ) → InBox depth other cell → InBox depth k cell
cells_from_contains depth k other within contains cell inside =
    let low = place_from_cell depth other cell inside in
    let high = place_above depth k.level other.level cell contains.level within in
    cell_from_place depth k cell
    (high ∙ ap (λ n. n / 2 ^ (other.level - k.level)) low ∙ ap (λ (o : Key). o.at) contains.over)

-- the first and the last cell of a box
pub first_in_box : (depth : ℕ) (k : Key) → InBox depth k (first_cell depth k)
first_in_box depth k =
    let some = pow_pos (depth - k.level) in record { from = omega arith; below = omega arith }

last_in_box : (depth : ℕ) (k : Key) → InBox depth k (first_cell depth k + width depth k - 1)
last_in_box depth k =
    let some = pow_pos (depth - k.level) in record { from = omega arith; below = omega arith }

-- a wider box is of a level that is no deeper
level_from_width : (depth : ℕ) (k other : Key) → k.level ≤ depth → width depth other ≤ width depth k → k.level ≤ other.level
level_from_width depth k other within wider =
    elim (cases_lt other.level k.level) [
      | inl deeper ↦
          let narrower = pow_below (depth - k.level) (depth - other.level) (omega arith) in
          absurd (omega arith)
      | inr level ↦ level
    ]

-- a key whose cells include another's contains it
pub contains_from_cells : (depth : ℕ) (k other : Key) → k.level ≤ depth → other.level ≤ depth → ((cell : ℕ) → InBox depth other cell → InBox depth k cell) → Contains k other
contains_from_cells depth k other within other_within cells =
    let first = cells (first_cell depth other) (first_in_box depth other) in
    let last = cells (first_cell depth other + width depth other - 1) (last_in_box depth other) in
    let level = level_from_width depth k other within (omega arith) in
    let low = place_from_cell depth other (first_cell depth other) (first_in_box depth other) in
    let high = place_above depth k.level other.level (first_cell depth other) level other_within in
    let at = place_from_cell depth k (first_cell depth other) first in
    record {
      level = level;
      over =
          same_key (ancestor other k.level) k refl
          (sym (ap (λ n. n / 2 ^ (other.level - k.level)) low) ∙ sym high ∙ at);
    }

pub boxes_nest : BoxesNest
boxes_nest depth k other within other_within =
    (cells_from_contains depth k other other_within, contains_from_cells depth k other within other_within)

-- a child's box has half the width
pub width_of_child : (depth : ℕ) (k : Key) (side : Bool) → k.level < depth → width depth k ≡ 2 * width depth (child k side)
width_of_child depth k side above =
    let one : depth - k.level ≡ depth - (k.level + 1) + 1 = omega arith in
    ap (λ n. 2 ^ n) one ∙ twice (depth - (k.level + 1))

-- the box of a left child begins where the key's does, and that of a right child a child's width on
left_start : (at half whole : ℕ) → whole ≡ 2 * half → (2 * at + 0) * half ≡ at * whole
left_start at half whole e = rw e (omega arith)

right_start : (at half whole : ℕ) → whole ≡ 2 * half → (2 * at + 1) * half ≡ at * whole + half
right_start at half whole e = rw e (omega arith)

-- a cell of the box is before the middle, or from it on
cells_in_halves : (depth : ℕ) (k : Key) →
    width depth k ≡ 2 * width depth (child k false) →
    first_cell depth (child k false) ≡ first_cell depth k →
    first_cell depth (child k true) ≡ first_cell depth k + width depth (child k true) →
    (cell : ℕ) → InBox depth k cell → InBox depth (child k false) cell ⊎ InBox depth (child k true) cell
cells_in_halves depth k half left right cell inside =
    elim (cases_lt cell (first_cell depth (child k true))) [
      | inl before ↦ inl (record { from = omega arith; below = omega arith })
      | inr after ↦ inr (record { from = omega arith; below = omega arith })
    ]

-- a cell of a half is one of the box
halves_in_box : (depth : ℕ) (k : Key) →
    width depth k ≡ 2 * width depth (child k false) →
    first_cell depth (child k false) ≡ first_cell depth k →
    first_cell depth (child k true) ≡ first_cell depth k + width depth (child k true) →
    (cell : ℕ) → InBox depth (child k false) cell ⊎ InBox depth (child k true) cell → InBox depth k cell
halves_in_box depth k half left right cell (inl inside) = record { from = omega arith; below = omega arith }
halves_in_box depth k half left right cell (inr inside) = record { from = omega arith; below = omega arith }

pub children_halve_the_box : ChildrenHalveTheBox
children_halve_the_box depth k above =
    let half : (side : Bool) → width depth k ≡ 2 * width depth (child k side) =
    λ side. width_of_child depth k side above in
    let left : first_cell depth (child k false) ≡ first_cell depth k =
    left_start k.at (width depth (child k false)) (width depth k) (half false) in
    let right : first_cell depth (child k true) ≡ first_cell depth k + width depth (child k true) =
    right_start k.at (width depth (child k true)) (width depth k) (half true) in
    record {
      half = half;
      left = left;
      right = right;
      cells =
          λ cell.
          (cells_in_halves depth k (half false) left right cell, halves_in_box depth k (half false) left right cell);
      apart = λ cell lower upper. omega arith;
    }

-- the place of a cell's key is one of its level
place_fits : (depth level cell : ℕ) → level ≤ depth → cell < 2 ^ depth → cell / 2 ^ (depth - level) < 2 ^ level
place_fits depth level cell order below =
    let parts : depth ≡ level + (depth - level) = omega arith in
    shr_below cell level (depth - level) (subst (λ n. cell < 2 ^ n) parts below)

pub one_key_on_each_level : OneKeyOnEachLevel
one_key_on_each_level depth level cell order below = record {
  key = λ shallow. record { level = shallow; at = place_fits depth level cell order below };
  has = cell_from_place depth (key_over depth level cell) cell refl;
  only =
      λ other same inside.
      same_key other (key_over depth level cell) same
      (sym (place_from_cell depth other cell inside) ∙ ap (λ n. cell / 2 ^ (depth - n)) same);
}
