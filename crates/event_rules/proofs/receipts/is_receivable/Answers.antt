use Rattle.std.proofs.Common.{rules}
use Rattle.event_rules.proofs.PassLemmas.{receivable_is}
use Rattle.event_rules.proofs.receipts.is_receivable.Goals as goal

pub returns-then-agree : goal.returns-then-agree
returns-then-agree g c =
    let is = receivable_is (g.P.Past.ranks_of c.args.past.now) (g.P.Past.log_of c.args.past.now) c.args.receipt.now c.if-last-lt-SECOND.false in
    search rules

pub returns-else-agree : goal.returns-else-agree
returns-else-agree g c =
    let is = receivable_is (g.P.Past.ranks_of c.args.past.now) (g.P.Past.log_of c.args.past.now) c.args.receipt.now c.if-last-lt-SECOND.false in
    search rules
