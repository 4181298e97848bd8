use Rattle.std.proofs.Common.{◌↔◌, drop}
use Rattle.event_lists.specs.Dues.{NeedsAreFree}
use Rattle.event_rules.proofs.spawns.needs_are_free.Given as goal

abbrev pub invariant-loop-label : goal.invariant-loop-label
invariant-loop-label g l = NeedsAreFree l.state.own l.by (g.P.Past.log_of l.past) l.label-items ↔ NeedsAreFree l.state.own l.by (g.P.Past.log_of l.past) (drop l.label-index l.label-items)
