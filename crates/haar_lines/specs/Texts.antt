-- The texts of lines.
use Rattle.std.specs.Prelude.{ℕ, ◌++◌, List, ℤ, codes, decimal}
use Rattle.std.specs.Fmt.{signed_decimal}
use Rattle.tree_key.specs.Keys.{Key}

-- the line of a key: its level, its place on the level, and a number
abbrev pub key_line : Key → ℤ → List ℕ
key_line key number = decimal key.level ++ codes " " ++ decimal key.at ++ codes " " ++ signed_decimal number ++ codes "\n"
