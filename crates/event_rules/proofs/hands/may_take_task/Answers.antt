use Rattle.std.proofs.Common.{rules}
use Rattle.event_rules.proofs.TakingLemmas.{task_taken, no_task_taken, message_load}
use Rattle.event_rules.proofs.hands.may_take_task.Goals as goal

pub returns-in_default : goal.returns-in_default
returns-in_default g c =
    ((λ t. absurd (cc)), (λ a. absurd (no_task_taken (g.P.Past.ranks_of c.args.past.now) (g.P.Past.workers_of c.args.past.now) (g.P.Past.log_of c.args.past.now) c.requires.legal c.args.rank c.args.number c.args.lane (c.in_default.ensures) a)))

pub returns-in-Message : goal.returns-in-Message
returns-in-Message g c =
    absurd (message_load (g.P.Past.log_of c.args.past.now) c.args.rank c.args.number c.in-Message.to c.in-Message.parcel c.in-Some.made (c.in-Some.ensures) c.in-Message.is)

pub returns-then-not-made : goal.returns-then-not-made
returns-then-not-made g c =
    let is = task_taken (g.P.Past.ranks_of c.args.past.now) (g.P.Past.workers_of c.args.past.now) (g.P.Past.log_of c.args.past.now) c.requires.legal c.args.rank c.args.number c.args.lane c.args.state.now c.in-Some.made c.in-Task.task c.requires.shown (c.in-Some.ensures) c.in-Task.is in
    search rules
