use Rattle.std.proofs.Common.{rules}
use Rattle.event_tables.proofs.TableLemmas.{touch_values, set_places}
use Rattle.event_tables.proofs.table.Table.touch.Goals as goal

pub returns-in-Ok-clause-values : goal.returns-in-Ok-clause-values
returns-in-Ok-clause-values g c =
    touch_values g.K.Ord.cmp g.K.Key.same c.told_apart.ensures.apart c.told_apart.ensures.one c.args.self.now.absent c.args.self.now.entries c.insert.new.self c.args.key c.in-Ok.ensures.updates (search rules)

pub returns-in-Ok-clause-places : goal.returns-in-Ok-clause-places
returns-in-Ok-clause-places g c =
    set_places g.K.Ord.cmp g.K.Key.same c.told_apart.ensures.apart c.args.self.now.entries c.insert.new.self c.args.key c.args.self.now.absent c.in-Ok.ensures.updates
