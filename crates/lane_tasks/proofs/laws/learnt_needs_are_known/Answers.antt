use Rattle.std.proofs.Common.{◌≤◌, arith}
use Rattle.event_lists.proofs.FutureLemmas.{gives_last}
use Rattle.lane_tasks.proofs.laws.learnt_needs_are_known.Goals as goal

pub returns : goal.returns
returns c = λ rank number told seen tolds are learnt f needed.
    let one = are f needed in
    let grows = gives_last one.0.seen seen (learnt one.0 one.1) f in
    let given = one.2 in omega (arith, given, grows)
