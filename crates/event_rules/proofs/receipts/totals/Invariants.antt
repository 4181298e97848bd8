use Rattle.std.proofs.Common.{◌≡◌, ◌*◌, ◌≤◌}
use Rattle.event_lists.specs.Fences.{total_sent, total_handled}
use Rattle.event_rules.proofs.receipts.totals.Given as goal

abbrev pub invariant-loop-rank : goal.invariant-loop-rank
invariant-loop-rank g l =
    record {
      sent : l.sent ≡ total_sent l.rank l.fence l.pass (g.P.Past.log_of l.past);
      handled : l.handled ≡ total_handled l.rank l.fence l.pass (g.P.Past.log_of l.past);
      sent_fits : l.sent ≤ 18446744073709551616 * l.rank;
      handled_fits : l.handled ≤ 18446744073709551616 * l.rank;
    }
