-- The inner product of two trees, from their cells and from their differences.
use Rattle.std.specs.Prelude.{ℕ, zero, suc, ◌-◌, Bool, true, false, ◌&&◌, if◌then◌else◌, List, map, ℤ, pos, ◌+ℤ◌, ◌*ℤ◌}
use Rattle.std.specs.List.{zip}
use Rattle.tree_key.specs.Keys.{Key, child}
use Rattle.tree_model.specs.Shapes.{is_interior}
use Rattle.tree_model.specs.Trees.{Tree, total, difference}

-- the products of two lists, element by element
abbrev pub products : List ℤ → List ℤ → List ℤ
products xs ys = map (λ p. p.0 *ℤ p.1) (zip xs ys)

-- the sum of the products of the values at each cell
abbrev pub inner_product : Tree → Tree → ℤ
inner_product f g = total (products f.cells g.cells)

-- whether a key has children in both trees
abbrev pub is_common : Tree → Tree → Key → Bool
is_common f g k = is_interior f.shape k && is_interior g.shape k

-- what the differences at a key and at the keys of so many levels below it add to the inner product: the product of the two
-- differences, and twice what the children add; nothing where the key isn't in both trees or is a leaf of one
abbrev pub inner_part_down : ℕ → Tree → Tree → Key → ℤ
inner_part_down zero f g k = pos 0
inner_part_down (suc levels) f g k =
    if is_common f g k
    then difference f k *ℤ difference g k +ℤ pos 2 *ℤ (inner_part_down levels f g (child k false) +ℤ inner_part_down levels f g (child k true))
    else pos 0

-- and at all keys below it down to the depth
abbrev pub inner_part : Tree → Tree → Key → ℤ
inner_part f g k = inner_part_down (f.depth - k.level) f g k
