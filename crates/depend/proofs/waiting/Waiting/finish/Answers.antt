use Rattle.std.proofs.Common.{arith}
use Rattle.std.specs.Prelude.{IsSome}
use Rattle.std.proofs.lemmas.List.Elements.{All-tail}
use Rattle.std.proofs.lemmas.Grind.{common_steps}
use Rattle.depend.proofs.waiting.Waiting.finish.Goals as goal

pub loop-slot-preserved : goal.loop-slot-preserved
loop-slot-preserved g c = record {
  so_far = grind (arith, common_steps);
  left = grind (arith, common_steps);
  filled = All-tail IsSome _ _ (rw c.in-Some.ensures.steps.0 at c.loop-slot.invariant.filled);
  room = grind (arith, common_steps);
}
