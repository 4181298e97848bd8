use Rattle.event_rules.proofs.TakingLemmas.{parcel_carried, none_carried}
use Rattle.event_rules.proofs.hands.carries.Goals as goal

pub returns-in-Some : goal.returns-in-Some
returns-in-Some g c =
    let made = c.in-Some.ensures in
    let is = parcel_carried (g.P.Past.ranks_of c.args.past.now) (g.P.Past.workers_of c.args.past.now) (g.P.Past.log_of c.args.past.now) c.requires.legal c.args.rank c.args.number c.args.parcel.now c.in-Some.made.load made.load in
    ((λ t. is.0 (c.has_parcel.ensures.0 t)), (λ a. c.has_parcel.ensures.1 (is.1 a)))

pub returns-in-None : goal.returns-in-None
returns-in-None g c =
    ((λ t. absurd (cc)), (λ a. absurd (none_carried (g.P.Past.ranks_of c.args.past.now) (g.P.Past.workers_of c.args.past.now) (g.P.Past.log_of c.args.past.now) c.requires.legal c.args.rank c.args.number c.args.parcel.now (c.in-None.ensures) a)))
