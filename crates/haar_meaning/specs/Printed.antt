-- The lines of the keys in a box, level by level.
use Rattle.std.specs.Prelude.{◌≡◌, ℕ, zero, suc, ◌+◌, ◌*◌, ◌^◌, ◌==◌, Bool, true, false, List, [], ◌∷◌, ◌++◌, filter, map, codes}
use Rattle.std.specs.Fmt.{signed_decimal}
use Rattle.std.specs.List.{flat_map, range_with_len}
use Rattle.tree_key.specs.Keys.{Key, root}
use Rattle.tree_model.specs.Nodes.{Form}
use Rattle.tree_model.specs.Nodes.Form.{Reconstructed, Compressed}
use Rattle.tree_model.specs.OperationTexts.{interior_line, printed_lines}
use Rattle.tree_model.specs.Shapes.{is_leaf, is_interior}
use Rattle.tree_model.specs.Texts.{leaf_line}
use Rattle.tree_model.specs.Trees.{Tree, IsTree, box_sum}

-- the keys so many levels below a key, from left to right
abbrev pub keys_below : Key → ℕ → List Key
keys_below k levels = map (λ i. record { level = k.level + levels; at = k.at * 2 ^ levels + i }) (range_with_len 0 (2 ^ levels))

-- whether a key of a tree has a line, and that line
abbrev pub has_line : Form → Tree → Key → Bool
has_line Reconstructed t k = is_leaf t.shape k
has_line Compressed t k = is_interior t.shape k

abbrev pub line_of : Form → Tree → Key → List ℕ
line_of Reconstructed t k = leaf_line t k
line_of Compressed t k = interior_line t k

-- the lines of the keys so many levels below a key
abbrev pub lines_below : Form → Tree → Key → ℕ → List ℕ
lines_below form t k levels = flat_map (line_of form t) (filter (has_line form t) (keys_below k levels))

-- the line that names the tree
abbrev pub heading_of : Form → List ℕ → Tree → List ℕ
heading_of Reconstructed name t = codes "tree " ++ name ++ codes " reconstructed\n"
heading_of Compressed name t = codes "tree " ++ name ++ codes " compressed " ++ signed_decimal (box_sum t root) ++ codes "\n"

-- a row of rows; below the last row all are empty
abbrev pub row_at : List (List ℕ) → ℕ → List ℕ
row_at [] at = []
row_at (row ∷ rows) zero = row
row_at (row ∷ rows) (suc at) = row_at rows at

-- the rows are the lines of the keys in a key's box, level by level from the key's own down
abbrev pub AreLinesOf : Form → Tree → Key → List (List ℕ) → Type 0
AreLinesOf form t k rows = (levels : ℕ) → row_at rows levels ≡ lines_below form t k levels

-- so they are after the line that names the tree
pub record AreTreeLines (form : Form) (name : List ℕ) (t : Tree) (rows : List (List ℕ)) : Type 0 where
  pub keys : List (List ℕ)
  pub parts : rows ≡ heading_of form name t ∷ keys
  pub lines : AreLinesOf form t root keys

-- the rows that a key gives; the root gives all lines of the tree
abbrev pub ArePrinted : Bool → Form → List ℕ → Tree → Key → List (List ℕ) → Type 0
ArePrinted true form name t k rows = AreTreeLines form name t rows
ArePrinted false form name t k rows = AreLinesOf form t k rows

abbrev pub AreRightRows : Form → List ℕ → Tree → Key → List (List ℕ) → Type 0
AreRightRows form name t k rows = ArePrinted (k.level == 0) form name t k rows

-- the lines of a tree, one row after another, are what `print` writes
abbrev pub TreeLinesArePrinted : Type 0
TreeLinesArePrinted = (form : Form) (name : List ℕ) (t : Tree) (rows : List (List ℕ)) → IsTree t → AreTreeLines form name t rows → flat_map (λ row. row) rows ≡ printed_lines form name t
