-- The lines of a compressed tree, of an inner product and of a tree's size, and the line of a command that overflows.
use Rattle.std.specs.Prelude.{ℕ, List, ◌++◌, filter, codes, decimal}
use Rattle.std.specs.Fmt.{signed_decimal}
use Rattle.std.specs.List.{flat_map}
use Rattle.tree_key.specs.Keys.{Key, root}
use Rattle.tree_model.specs.Nodes.{Form}
use Rattle.tree_model.specs.Nodes.Form.{Reconstructed, Compressed}
use Rattle.tree_model.specs.Products.{inner_product}
use Rattle.tree_model.specs.Shapes.{keys, key_count, is_interior}
use Rattle.tree_model.specs.Texts.{tree_lines}
use Rattle.tree_model.specs.Trees.{Tree, box_sum, difference}

-- an interior key's line: its level, its place on the level, and the difference between the halves of its box
abbrev pub interior_line : Tree → Key → List ℕ
interior_line t k = decimal k.level ++ codes " " ++ decimal k.at ++ codes " " ++ signed_decimal (difference t k) ++ codes "\n"

-- the keys of a tree that have children there, in key order
abbrev pub interior_keys : Tree → List Key
interior_keys t = filter (is_interior t.shape) (keys t.depth)

-- what `print` writes of a compressed tree: a line that names it and has its whole sum, and a line for each interior key
abbrev pub compressed_lines : List ℕ → Tree → List ℕ
compressed_lines name t =
    codes "tree " ++ name ++ codes " compressed " ++ signed_decimal (box_sum t root) ++ codes "\n" ++ flat_map (interior_line t) (interior_keys t)

-- what `print` writes of a tree in the form that it is kept in
abbrev pub printed_lines : Form → List ℕ → Tree → List ℕ
printed_lines Reconstructed name t = tree_lines name t
printed_lines Compressed name t = compressed_lines name t

-- what `inner` writes: the two names, and the inner product of their trees
abbrev pub inner_line : List ℕ → Tree → List ℕ → Tree → List ℕ
inner_line name f other g = codes "inner " ++ name ++ codes " " ++ other ++ codes " " ++ signed_decimal (inner_product f g) ++ codes "\n"

-- what `size` writes: the name, and the number of the keys of its tree
abbrev pub size_line : List ℕ → Tree → List ℕ
size_line name t = codes "size " ++ name ++ codes " " ++ decimal (key_count t.depth t.shape) ++ codes "\n"

-- what a job ends with at its first command that overflows; commands are numbered from 1
abbrev pub overflow_line : ℕ → List ℕ
overflow_line command = codes "overflow at command " ++ decimal command ++ codes "\n"
