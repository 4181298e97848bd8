use Rattle.task_tables.proofs.FutureLemmas.{found_is_same, right_where_same}
use Rattle.task_tables.proofs.NamingLemmas.{some_then}
use Rattle.task_tables.proofs.future_table.FutureTable.find.Goals as goal

pub invariant_of-self : goal.invariant_of-self
invariant_of-self g c =
    some_then g.J.Naming.app c.self.invariant (λ app all. right_where_same (g.A.App.right_value app) c.self.inside.futures.entries c.find_value.new.futures.entries all
    (found_is_same c.self.inside.futures.entries c.find_value.new.futures.entries c.args.future c.find_value.ensures.unknown c.find_value.ensures.known))

pub returns-clause-same : goal.returns-clause-same
returns-clause-same g c = rw (← c.self.view_is) (found_is_same c.self.inside.futures.entries c.find_value.new.futures.entries c.args.future c.find_value.ensures.unknown c.find_value.ensures.known)
