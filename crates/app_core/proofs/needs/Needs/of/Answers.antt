use Rattle.std.proofs.Common.{rules, arith}
use Rattle.app_core.specs.NeedsLaws.{made}
use Rattle.app_core.proofs.needs.Needs.of.Goals as goal

pub invariant_of-result : goal.invariant_of-result
invariant_of-result c = made c.args.labels.now c.copy_from_slice.new.self (search rules) (omega arith) (search rules)
