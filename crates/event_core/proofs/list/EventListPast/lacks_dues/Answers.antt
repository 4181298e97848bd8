use Rattle.std.proofs.Common.{subst}
use Rattle.event_tables.specs.Lacking.{KeepsLacks}
use Rattle.event_core.proofs.list.EventListPast.lacks_dues.Goals as goal

pub returns : goal.returns
returns c = c.lacks_dues.ensures c.args.self.now.log (subst (λ v. KeepsLacks v.log c.self.inside.indexes.lacking) c.self.view_is c.self.invariant.keeps.lacking)
