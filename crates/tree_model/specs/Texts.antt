-- The lines of a tree in the reconstructed form.
use Rattle.std.specs.Prelude.{ℕ, List, ◌++◌, filter, codes, decimal}
use Rattle.std.specs.Fmt.{signed_decimal}
use Rattle.std.specs.List.{flat_map}
use Rattle.tree_key.specs.Keys.{Key}
use Rattle.tree_model.specs.Shapes.{keys, is_leaf}
use Rattle.tree_model.specs.Trees.{Tree, box_sum}

-- a leaf's line: its level, its place on the level, and the sum over its box
abbrev pub leaf_line : Tree → Key → List ℕ
leaf_line t leaf = decimal leaf.level ++ codes " " ++ decimal leaf.at ++ codes " " ++ signed_decimal (box_sum t leaf) ++ codes "\n"

-- the keys of a tree that are leaves, in key order
abbrev pub leaves : Tree → List Key
leaves t = filter (is_leaf t.shape) (keys t.depth)

-- what `print` writes of a tree: a line that names it, and a line for each leaf
abbrev pub tree_lines : List ℕ → Tree → List ℕ
tree_lines name t = codes "tree " ++ name ++ codes " reconstructed\n" ++ flat_map (leaf_line t) (leaves t)
