use Rattle.std.proofs.Common.{◌≡◌, ◌↔◌, sym, subst, true}
use Rattle.event_lists.specs.declared.event.Parcel.{Parcel}
use Rattle.event_rules.specs.States.{MayCarry}
use Rattle.event_rules.proofs.DueLemmas.{give_shown}
use Rattle.event_rules.proofs.spawns.may_carry.Goals as goal

pub returns-in-Give : goal.returns-in-Give
returns-in-Give g c =
    let is = give_shown (g.P.Past.log_of c.args.past.now) c.args.lane c.args.state.now c.requires.shown c.in-Give.label in
    subst (λ (p : Parcel). (c.keeps_due.result ≡ true) ↔ MayCarry (g.P.Past.log_of c.args.past.now) c.args.lane p) (sym c.in-Give.is) ((λ t. is.0 (c.keeps_due.ensures.0 t)), (λ a. c.keeps_due.ensures.1 (is.1 a)))
