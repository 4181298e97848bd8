-- Two small trees, whose nodes the examples compute.
use Rattle.std.specs.Prelude.{[], ◌∷◌, ◌&&◌, ◌||◌, nat_le, pos}
use Rattle.tree_key.specs.Keys.{Key}
use Rattle.tree_model.specs.Shapes.{is_key_of}
use Rattle.tree_model.specs.Trees.{Tree}

-- the values 5, 5, 2 and 3: the left half is one leaf, and the right half has two
abbrev pub uneven : Tree
uneven = record {
  depth = 2;
  cells = pos 5 ∷ pos 5 ∷ pos 2 ∷ pos 3 ∷ [];
  shape = λ k. is_key_of 2 k && (nat_le k.level 1 || nat_le 2 k.at);
}

-- the value 7 at both cells, as one leaf
abbrev pub single : Tree
single = record { depth = 1; cells = pos 7 ∷ pos 7 ∷ []; shape = λ k. is_key_of 0 k }

abbrev pub left : Key
left = record { level = 1; at = 0 }

abbrev pub right : Key
right = record { level = 1; at = 1 }

abbrev pub third_cell : Key
third_cell = record { level = 2; at = 2 }

abbrev pub fourth_cell : Key
fourth_cell = record { level = 2; at = 3 }
