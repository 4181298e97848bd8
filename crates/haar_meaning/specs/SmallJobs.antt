-- Small jobs whose right values and cells were worked out by hand.
use Rattle.std.specs.Prelude.{[], ◌∷◌, pos, codes}
use Rattle.owner_map.specs.declared.map.OwnerMap.TheVariants.{Block}
use Rattle.tree_model.specs.Commands.{Command}
use Rattle.tree_model.specs.Functions.Function.{Ramp, Step}
use Rattle.haar_node.specs.declared.Func.TheVariants as func
use Rattle.haar_base.specs.declared.operation.Operation.TheVariants as operation
use Rattle.haar_meaning.specs.PlannedJobs.{PlannedJob}

-- the values 0, 1, 2 and 3, each in a leaf of its own, in the compressed form; and their inner product with themselves
abbrev pub compressed_ramp : PlannedJob
compressed_ramp = record {
  depth = 2;
  commands = Command.Project (codes "f") (record { function = Ramp (pos 0) (pos 1); level = 0; tolerance = 0 }) ∷ Command.Compress (codes "f") ∷ Command.Inner (codes "f") (codes "f") ∷ [];
  operations = operation.Project (func.Ramp (pos 0) (pos 1)) 0 0 ∷ operation.Compress 1 ∷ operation.Inner 2 2 ∷ [];
  owners = Block;
  ranks = 2;
}

-- the values 1 and 16777216; the sum of the tree with itself overflows at the second leaf alone, and then a command is left
abbrev pub overflowing_sum : PlannedJob
overflowing_sum = record {
  depth = 1;
  commands = Command.Project (codes "f") (record { function = Step 1 (pos 1) (pos 16777216); level = 0; tolerance = 0 }) ∷ Command.Compress (codes "f")
      ∷ Command.Add (codes "g") (pos 1) (codes "f") (pos 1) (codes "f") ∷ Command.Reconstruct (codes "g") ∷ [];
  operations = operation.Project (func.Step 1 (pos 1) (pos 16777216)) 0 0 ∷ operation.Compress 1 ∷ operation.Add (pos 1) 2 (pos 1) 2 ∷ operation.Reconstruct 3 ∷ [];
  owners = Block;
  ranks = 1;
}

-- the values 5, 2, 2 and 2, each in a leaf of its own: the right half becomes one leaf, and then the keys are counted
abbrev pub coarsened_step : PlannedJob
coarsened_step = record {
  depth = 2;
  commands = Command.Project (codes "f") (record { function = Step 1 (pos 5) (pos 2); level = 2; tolerance = 0 }) ∷ Command.Coarsen (codes "f") ∷ Command.Fence ∷ Command.Size (codes "f") ∷ [];
  operations = operation.Project (func.Step 1 (pos 5) (pos 2)) 2 0 ∷ operation.Coarsen 1 ∷ operation.Fence ∷ operation.Size 2 ∷ [];
  owners = Block;
  ranks = 2;
}
