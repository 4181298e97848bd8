use Rattle.std.proofs.Common.{refl, arith}
use Rattle.haar_units.specs.Jobs.Operation.{Project, Coarsen}
use Rattle.haar_units.specs.Actions.Action.{Stop, Combine}
use Rattle.haar_units.proofs.examples.other_actions_are_allowed.Goals as goal

pub returns-clause-stop : goal.returns-clause-stop
returns-clause-stop c = record { operation = Project; at = refl; action = Stop; fit = refl; part = refl; key = λ few. omega arith; lists = refl }

pub returns-clause-combine : goal.returns-clause-combine
returns-clause-combine c = record { operation = Coarsen; at = refl; action = Combine; fit = refl; part = refl; key = λ few. omega arith; lists = refl }
