use Rattle.std.proofs.Common.{None}
use Rattle.task_tables.specs.Futures.{state_of}
use Rattle.task_tables.proofs.FutureLemmas.{changed_again, right_after_change}
use Rattle.task_tables.proofs.NamingLemmas.{some_then}
use Rattle.task_tables.proofs.future_table.FutureTable.take_or_wait.Goals as goal

pub invariant_of-self-in-Found : goal.invariant_of-self-in-Found
invariant_of-self-in-Found g c =
    let asked = rw c.in-Found.is at c.in_ok-ask.ensures.asked in
    let change = changed_again c.self.inside.futures.entries c.ask.new.futures.entries c.remove.new.self.entries c.args.future (state_of c.self.inside.futures.entries c.args.future) None asked.1 c.remove.ensures.updates.0 in
    some_then g.J.Naming.app c.self.invariant (λ app all. right_after_change (g.A.App.right_value app) c.self.inside.futures.entries c.remove.new.self.entries c.args.future None all change tt)
