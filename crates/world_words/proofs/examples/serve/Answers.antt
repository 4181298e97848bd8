use Rattle.std.proofs.Common.{◌≡◌, List, [], ◌∷◌, refl, sym, ap, subst, ◌∙◌}
use Rattle.std.specs.Prelude.{None}
use Rattle.event_lists.specs.declared.event.Event.{Event}
use Rattle.event_lists.specs.declared.event.Event.TheVariants.{Sent, TookMessage}
use Rattle.event_lists.specs.declared.event.Parcel.TheVariants.{Unit as Spawned}
use Rattle.event_lists.specs.Events.{in_hand}
use Rattle.event_lists.specs.Dues.{SubmitsFreely}
use Rattle.event_lists.proofs.ListLemmas.{on_begins}
use Rattle.world_rule.specs.declared.view.Owed.{Owed}
use Rattle.world_rule.specs.Owing.{took}
use Rattle.world_words.specs.Lanes.{task_name}
use Rattle.world_words.proofs.examples.serve.Goals as goal

pub submitted-requires-clause-dues : goal.submitted-requires-clause-dues
submitted-requires-clause-dues g c =
    let a = c.args in
    let v = c.take_in.new.lane in
    let r = c.requires.carrier.0 in
    let n = c.requires.carrier.1 in
    let sent = c.requires.carrier.3 in
    let mine : v.mine ≡ TookMessage r n ∷ [] = c.take_in.ensures.grew.event ∙ ap (λ (o : Owed). took o.pending ∷ a.lane.now.mine) c.requires.carrier.2 ∙ ap (λ (es : List Event). TookMessage r n ∷ es) c.requires.lane.0 in
    subst (λ (es : List Event). SubmitsFreely (in_hand es) v.name v.seen es (task_name a.unit [] None)) (sym mine)
    ((a.lane.now.name.rank, (sent.0, sent.1, on_begins sent.0 (Sent n a.lane.now.name.rank (Spawned a.unit None)) a.carrier.seen v.seen c.take_in.ensures.learnt sent.2)), refl, refl)
