-- A small job of two fences, at two ranks, whose entries and totals were worked out by hand.
use Rattle.std.specs.Prelude.{[], ◌∷◌, pos, codes}
use Rattle.owner_map.specs.declared.map.OwnerMap.TheVariants.{Block}
use Rattle.tree_model.specs.Commands.{Command}
use Rattle.tree_model.specs.Functions.Function.{Step}
use Rattle.haar_node.specs.declared.Func.TheVariants as func
use Rattle.haar_base.specs.declared.operation.Operation.TheVariants as operation
use Rattle.haar_meaning.specs.PlannedJobs.{PlannedJob}

-- the values 5, 2, 2 and 2, each in a leaf of its own: the right half becomes one leaf, which then is compressed, and counted
abbrev pub two_fences : PlannedJob
two_fences = record {
  depth = 2;
  commands = Command.Project (codes "f") (record { function = Step 1 (pos 5) (pos 2); level = 2; tolerance = 0 }) ∷ Command.Coarsen (codes "f") ∷ Command.Fence
      ∷ Command.Compress (codes "f") ∷ Command.Fence ∷ Command.Size (codes "f") ∷ [];
  operations = operation.Project (func.Step 1 (pos 5) (pos 2)) 2 0 ∷ operation.Coarsen 1 ∷ operation.Fence ∷ operation.Compress 2 ∷ operation.Fence ∷ operation.Size 4 ∷ [];
  owners = Block;
  ranks = 2;
}
