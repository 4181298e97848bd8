use Rattle.std.proofs.Common.{◌≡◌, ◌↔◌, sym, subst, true}
use Rattle.event_lists.specs.declared.event.Event.{Event}
use Rattle.event_rules.specs.Asks.{Asks}
use Rattle.event_rules.proofs.decision.is_right.Goals as goal

pub returns-in-ReadHandled : goal.returns-in-ReadHandled
returns-in-ReadHandled g c =
    subst (λ (e : Event). (c.may_read.result ≡ true) ↔ Asks (g.P.Past.ranks_of c.args.past.now) (g.P.Past.log_of c.args.past.now) c.args.lane e) (sym c.in-ReadHandled.is) ((λ t. (tt, tt, c.may_read.ensures.0 t)), (λ a. c.may_read.ensures.1 a.2))
