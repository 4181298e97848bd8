use Rattle.std.specs.Prelude.{Some, None, ◌≡◌}
use Rattle.std.specs.BTreeMap.{get, Updates}
use Rattle.event_tables.proofs.TableLemmas.{set_values, set_places, stands, done}
use Rattle.event_tables.proofs.table.Table.set.Goals as goal

pub returns-clause-values : goal.returns-clause-values
returns-clause-values g c =
    set_values g.K.Ord.cmp g.K.Key.same c.told_apart.ensures.apart c.args.self.now.absent c.args.self.now.entries c.insert.new.self c.args.key c.args.value
    (done c.insert.result (Updates g.K.Ord.cmp c.args.self.now.entries c.insert.new.self c.args.key (Some c.args.value)) (get g.K.Ord.cmp c.args.self.now.entries c.args.key ≡ None) c.insert.ensures.updates c.insert.ensures.absent
    (stands g.K.Ord.cmp g.K.Key.same c.told_apart.ensures.apart c.args.self.now.entries c.args.key c.requires))

pub returns-clause-places : goal.returns-clause-places
returns-clause-places g c =
    set_places g.K.Ord.cmp g.K.Key.same c.told_apart.ensures.apart c.args.self.now.entries c.insert.new.self c.args.key c.args.value
    (done c.insert.result (Updates g.K.Ord.cmp c.args.self.now.entries c.insert.new.self c.args.key (Some c.args.value)) (get g.K.Ord.cmp c.args.self.now.entries c.args.key ≡ None) c.insert.ensures.updates c.insert.ensures.absent
    (stands g.K.Ord.cmp g.K.Key.same c.told_apart.ensures.apart c.args.self.now.entries c.args.key c.requires))
