-- Room for events of any kind. Crates above use it too.
use Rattle.std.proofs.Common.{◌≤◌, arith}
use Rattle.event_lists.specs.declared.event.Event.{Event}
use Rattle.event_lists.specs.declared.event.Event.TheVariants.{Sent, TookMessage, TookTask, Handled, Submitted, Ran, Gave, Put, Erased, ReadHandled, ReadRan, ReadSubmitted, ReadSent, Enter, Leave, Receipt}
use Rattle.lane_trace.specs.Traces.{need_count, row_count, IsShort, AnyEventFits}

record AreFew (e : Event) : Type 0 where
  needs : need_count e ≤ 16
  rows : row_count e ≤ 16

few : (e : Event) → IsShort e → AreFew e
few (Submitted n t) short = record { needs = short; rows = omega arith }
few (Receipt r) short = record { needs = omega arith; rows = short }
few (Sent n to p) short = record { needs = omega arith; rows = omega arith }
few (TookMessage r n) short = record { needs = omega arith; rows = omega arith }
few (TookTask r n) short = record { needs = omega arith; rows = omega arith }
few (Handled n r m) short = record { needs = omega arith; rows = omega arith }
few (Ran n r t) short = record { needs = omega arith; rows = omega arith }
few (Gave f) short = record { needs = omega arith; rows = omega arith }
few (Put name) short = record { needs = omega arith; rows = omega arith }
few (Erased name) short = record { needs = omega arith; rows = omega arith }
few (ReadHandled v f p) short = record { needs = omega arith; rows = omega arith }
few (ReadRan v f p) short = record { needs = omega arith; rows = omega arith }
few (ReadSubmitted v f p) short = record { needs = omega arith; rows = omega arith }
few (ReadSent v f p) short = record { needs = omega arith; rows = omega arith }
few (Enter f) short = record { needs = omega arith; rows = omega arith }
few (Leave f) short = record { needs = omega arith; rows = omega arith }

pub any_fits : AnyEventFits
any_fits n room e within short =
    let are = few e short in (
      (omega (arith, within.0), omega (arith, within.1, are.needs), omega (arith, within.2, are.rows)),
      (omega (arith, within.0), omega (arith, within.1, are.needs), omega (arith, within.2, are.rows)),
    )
