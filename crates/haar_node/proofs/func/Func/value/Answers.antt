use Rattle.std.proofs.Common.{arith}
use Rattle.std.proofs.lemmas.Int.{to_z-of_z, ints}
use Rattle.haar_node.specs.Func.{function_of}
use Rattle.tree_model.proofs.FunctionLemmas.{value_within}
use Rattle.haar_node.proofs.func.Func.value.Goals as goal

pub returns-in-Ramp-clause-bound : goal.returns-in-Ramp-clause-bound
returns-in-Ramp-clause-bound c =
    let within = rw c.in-Ramp.is at (value_within c.requires.0 (function_of c.args.self.now) c.args.x c.requires.1 c.requires.2) in
    grind (arith, to_z-of_z, ints, within)
