use Rattle.std.proofs.Common.{ap, ◌∙◌}
use Rattle.event_rules.specs.declared.values.Found.{Found}
use Rattle.event_tables.specs.Futures.{with_more}
use Rattle.event_tables.proofs.FutureLemmas.{added}
use Rattle.event_tables.proofs.futures.add.Goals as goal

pub returns-clause-values : goal.returns-clause-values
returns-clause-values c =
    added c.args.futures.now c.set.new.self c.args.future c.args.more.due c.args.more.needed c.args.more.given c.joined.result
    (c.joined.ensures ∙ ap (λ (s : Found). with_more s c.args.more.due c.args.more.needed c.args.more.given) c.get-found.ensures)
    c.set.ensures.values
