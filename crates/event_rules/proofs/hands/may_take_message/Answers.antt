use Rattle.std.proofs.Common.{rules}
use Rattle.event_rules.proofs.TakingLemmas.{message_taken, no_message_taken}
use Rattle.event_rules.proofs.hands.may_take_message.Goals as goal

pub returns-then-goes_to : goal.returns-then-goes_to
returns-then-goes_to g c =
    let is = message_taken (g.P.Past.ranks_of c.args.past.now) (g.P.Past.workers_of c.args.past.now) (g.P.Past.log_of c.args.past.now) c.requires.legal c.args.rank c.args.number c.args.lane c.args.state.now c.in-Some.made c.requires.shown (c.in-Some.ensures) in
    search rules

pub returns-else-goes_to : goal.returns-else-goes_to
returns-else-goes_to g c =
    let is = message_taken (g.P.Past.ranks_of c.args.past.now) (g.P.Past.workers_of c.args.past.now) (g.P.Past.log_of c.args.past.now) c.requires.legal c.args.rank c.args.number c.args.lane c.args.state.now c.in-Some.made c.requires.shown (c.in-Some.ensures) in
    search rules

pub returns-in-None : goal.returns-in-None
returns-in-None g c =
    ((λ t. absurd (cc)), (λ a. absurd (no_message_taken (g.P.Past.ranks_of c.args.past.now) (g.P.Past.workers_of c.args.past.now) (g.P.Past.log_of c.args.past.now) c.requires.legal c.args.rank c.args.number c.args.lane (c.in-None.ensures) a)))
