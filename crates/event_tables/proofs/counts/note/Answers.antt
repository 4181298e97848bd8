use Rattle.std.proofs.Common.{rules}
use Rattle.event_tables.proofs.CountLemmas.{counted}
use Rattle.event_tables.proofs.counts.note.Goals as goal

pub returns-in-Some : goal.returns-in-Some
returns-in-Some c = λ log short keeps.
    counted c.args.lane c.args.event.now log c.in-Some.kind (search rules) short c.args.counts.now c.set.new.self keeps c.saturating_add.result c.get-count.result c.saturating_add.ensures c.get-count.ensures c.set.ensures.values
