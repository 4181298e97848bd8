use Rattle.event_tables.proofs.LackingLemmas.{lacks_at}
use Rattle.event_tables.proofs.lacking.lacks_dues.Goals as goal

pub returns : goal.returns
returns c = λ log keeps. lacks_at log c.args.lacking.now keeps c.args.by c.get.result c.get.ensures
