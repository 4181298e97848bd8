use Rattle.event_rules.proofs.PassLemmas.{ready_is}
use Rattle.event_rules.proofs.fences.is_ready.Goals as goal

pub returns-else-pass-lt2 : goal.returns-else-pass-lt2
returns-else-pass-lt2 g c =
    let is = ready_is (g.P.Past.ranks_of c.args.past.now) c.args.fence c.args.pass (g.P.Past.log_of c.args.past.now) c.if-pass-lt2.false in
    ((λ t. is.0 (c.is_complete.ensures.0 t)), (λ r. c.is_complete.ensures.1 (is.1 r)))
