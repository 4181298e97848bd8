use Rattle.std.proofs.Common.{sym, ◌∙◌}
use Rattle.haar_steps.proofs.OperationLemmas.{operation_within}
use Rattle.haar_steps.proofs.commands.Commands.known.Goals as goal

pub returns-then-there-clause-within : goal.returns-then-there-clause-within
returns-then-there-clause-within c =
    operation_within c.args.self.now.depth c.args.self.now.operations.items c.args.command c.in-Some.operation c.args.self.now.is_within (sym c.operation.ensures ∙ c.in-Some.is)
