use Rattle.std.proofs.Common.{◌≡◌, List, [], ◌∷◌, refl, sym, ap, subst, ◌∙◌, inl}
use Rattle.event_lists.specs.declared.event.Event.{Event}
use Rattle.event_lists.specs.declared.event.Event.TheVariants.{Sent, TookMessage, Gave}
use Rattle.event_lists.specs.declared.event.Parcel.TheVariants.{Give}
use Rattle.event_lists.specs.Dues.{Dues}
use Rattle.event_lists.proofs.ListLemmas.{on_begins}
use Rattle.world_rule.specs.declared.view.Owed.{Owed}
use Rattle.world_rule.specs.Owing.{took}
use Rattle.world_words.proofs.examples.accept.Goals as goal

pub gave-requires-clause-dues : goal.gave-requires-clause-dues
gave-requires-clause-dues g c =
    let a = c.args in
    let v = c.take_in.new.lane in
    let r = c.requires.carrier.0 in
    let n = c.requires.carrier.1 in
    let sent = c.requires.carrier.3 in
    let mine : v.mine ≡ TookMessage r n ∷ [] = c.take_in.ensures.grew.event ∙ ap (λ (o : Owed). took o.pending ∷ a.lane.now.mine) c.requires.carrier.2 ∙ ap (λ (es : List Event). TookMessage r n ∷ es) c.requires.lane.0 in
    subst (λ (es : List Event). Dues v.seen v.name es (Gave a.future)) (sym mine)
    (inl ((a.lane.now.name.rank, (sent.0, sent.1, on_begins sent.0 (Sent n a.lane.now.name.rank (Give a.future)) a.carrier.seen v.seen c.take_in.ensures.learnt sent.2)), refl))
