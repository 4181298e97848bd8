use Rattle.std.proofs.Common.{Bool, List, [], sym, ap, subst}
use Rattle.std.specs.Prelude.{if◌then◌else◌, None}
use Rattle.std.proofs.lemmas.Bool.{ne_eqb}
use Rattle.app_core.specs.declared.outline.Outline.TheVariants.{Spawn}
use Rattle.event_lists.specs.declared.event.Event.{Event}
use Rattle.event_lists.specs.declared.event.Event.TheVariants.{Sent, Submitted}
use Rattle.event_lists.specs.declared.event.Parcel.TheVariants.{Unit as Spawned}
use Rattle.event_lists.specs.Events.{in_hand}
use Rattle.world_rule.specs.Steps.{IsNextEffect}
use Rattle.world_words.specs.Lanes.{task_name}
use Rattle.world_words.proofs.examples.start.Goals as goal

pub sent-requires-clause-next : goal.sent-requires-clause-next
sent-requires-clause-next g c =
    let a = c.args in
    let v = a.lane.now in
    subst (λ (es : List Event). IsNextEffect a.words.now.program v.progress v.seen v.name es (Sent 0 a.to (Spawned a.unit None)) (in_hand es)) (sym c.requires.lane.0)
    (Spawn a.unit None [] a.to, c.requires.next, λ n. sym (ap (λ (b : Bool). if b then Submitted n (task_name a.unit [] None) else Sent n a.to (Spawned a.unit None)) (ne_eqb a.to v.name.rank c.requires.target.1)))
