use Rattle.std.proofs.Common.{◌↔◌, drop, Some}
use Rattle.event_rules.specs.States.{AreGiven}
use Rattle.event_rules.proofs.hands.are_given.Given as goal

abbrev pub invariant-loop-label : goal.invariant-loop-label
invariant-loop-label g l = AreGiven (Some l.by) (g.P.Past.log_of l.past) l.label-items ↔ AreGiven (Some l.by) (g.P.Past.log_of l.past) (drop l.label-index l.label-items)
