-- The lines of a tree, from what is stored of it.
use Rattle.std.specs.Prelude.{ℕ, List, ◌++◌, codes, decimal, ℤ}
use Rattle.std.specs.Fmt.{signed_decimal}
use Rattle.std.specs.List.{flat_map}
use Rattle.tree_key.specs.Keys.{Key}

-- a key's line: its level, its place on the level, and the number stored there
abbrev pub number_line : Key × ℤ → List ℕ
number_line e = decimal e.0.level ++ codes " " ++ decimal e.0.at ++ codes " " ++ signed_decimal e.1 ++ codes "\n"

-- the text of a reconstructed tree, from the sums of its leaves
abbrev pub sums_text : List ℕ → List (Key × ℤ) → List ℕ
sums_text name es = codes "tree " ++ name ++ codes " reconstructed\n" ++ flat_map number_line es

-- the text of a compressed tree, from its sum and its differences
abbrev pub differences_text : List ℕ → ℤ → List (Key × ℤ) → List ℕ
differences_text name sum es = codes "tree " ++ name ++ codes " compressed " ++ signed_decimal sum ++ codes "\n" ++ flat_map number_line es
