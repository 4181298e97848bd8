-- The results of a small job, worked out by hand.
use Rattle.std.specs.Prelude.{ℕ, List, [], ◌∷◌, ◌++◌, pos, codes}
use Rattle.tree_model.specs.Commands.{Command}
use Rattle.tree_model.specs.Functions.Function.{Step}
use Rattle.haar_base.specs.declared.value.Value.{Value}
use Rattle.haar_base.specs.declared.value.Value.TheVariants.{Done, Sum, Lines, Bad}

-- a tree with the values 1 and 16777216 is printed in both forms; its sum with itself overflows at the second value
abbrev pub two_prints : List Command
two_prints =
    Command.Project (codes "f") (record { function = Step 1 (pos 1) (pos 16777216); level = 0; tolerance = 0 }) ∷ Command.Print (codes "f") ∷ Command.Compress (codes "f")
    ∷ Command.Fence ∷ Command.Print (codes "f") ∷ Command.Add (codes "g") (pos 1) (codes "f") (pos 1) (codes "f") ∷ Command.Print (codes "g") ∷ []

-- the values of its results, one for each command but the fence
abbrev pub results_of_two_prints : List Value
results_of_two_prints =
    Done ∷ Lines (codes "tree f reconstructed\n" ∷ [] ∷ codes "1 0 1\n1 1 16777216\n" ∷ []) ∷ Sum (pos 16777217)
    ∷ Lines (codes "tree f compressed 16777217\n" ∷ codes "0 0 -16777215\n" ∷ [] ∷ []) ∷ Bad ∷ Done ∷ []

-- what the two prints write
abbrev pub text_of_two_prints : List ℕ
text_of_two_prints = codes "tree f reconstructed\n1 0 1\n1 1 16777216\ntree f compressed 16777217\n0 0 -16777215\n"
