use Rattle.std.proofs.Common.{rules, arith}
use Rattle.event_lists.specs.RowsLaws.{made}
use Rattle.event_lists.proofs.receipt.Rows.of.Goals as goal

pub invariant_of-result : goal.invariant_of-result
invariant_of-result c = made c.args.rows.now c.copy_from_slice.new.self (search rules) (omega arith)
