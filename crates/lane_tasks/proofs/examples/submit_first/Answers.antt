use Rattle.std.proofs.Common.{Bool, List, [], ◌∷◌, Option, refl, sym, ap, subst, inr}
use Rattle.std.specs.Prelude.{if◌then◌else◌, Some, None}
use Rattle.std.proofs.lemmas.Bool.{eq-eqb}
use Rattle.app_core.specs.declared.label.Label.{Label}
use Rattle.app_core.specs.declared.outline.Outline.TheVariants.{Spawn}
use Rattle.event_lists.specs.declared.event.Event.{Event}
use Rattle.event_lists.specs.declared.event.Event.TheVariants.{Sent, Submitted}
use Rattle.event_lists.specs.declared.event.Parcel.TheVariants.{Unit as Spawned}
use Rattle.event_lists.specs.declared.future.Bringer.{Bringer}
use Rattle.event_lists.specs.declared.future.Bringer.TheVariants.{Main as main_at}
use Rattle.event_lists.specs.declared.mark.Mark.{Mark}
use Rattle.event_lists.specs.Events.{in_hand}
use Rattle.event_lists.specs.Dues.{SubmitsFreely, DueIsFree, NeedsAreFree}
use Rattle.world_rule.specs.Steps.{IsNextEffect}
use Rattle.world_words.specs.Lanes.{task_name}
use Rattle.lane_tasks.proofs.examples.submit_first.Goals as goal

-- before the first event each due and each need is free
due_is_free : (b : Bringer) (due : Option Label) → DueIsFree None (Some b) [] [] due
due_is_free b None = tt
due_is_free b (Some d) = inr (refl, refl)

needs_are_free : (b : Bringer) (ns : List Label) → NeedsAreFree None (Some b) [] ns
needs_are_free b [] = tt
needs_are_free b (n ∷ ns) = (refl, refl, needs_are_free b ns)

pub submitted-number-requires-clause-dues : goal.submitted-number-requires-clause-dues
submitted-number-requires-clause-dues g c =
    let a = c.args in
    let v = a.lane.now in
    let t = task_name c.label-label.result a.needs.now c.due-due.result in
    subst (λ (es : List Event). SubmitsFreely (in_hand es) v.name v.seen es t) (sym c.requires.lane.0)
    (subst (λ (log : List Mark). SubmitsFreely None v.name log [] t) (sym c.requires.lane.1)
    (due_is_free (main_at v.name.rank) c.due-due.result, c.requires.needs.1, needs_are_free (main_at v.name.rank) a.needs.now))

pub submitted-number-requires-clause-next : goal.submitted-number-requires-clause-next
submitted-number-requires-clause-next g c =
    let a = c.args in
    let v = a.lane.now in
    let r = v.name.rank in
    let u = g.A.App.label_of a.app.now a.unit in
    let d = g.A.App.due_of a.app.now a.unit in
    let t = task_name u a.needs.now d in
    rw (c.label-label.ensures, c.due-due.ensures) (
    subst (λ (es : List Event). IsNextEffect a.words.now.program v.progress v.seen v.name es (Submitted 0 t) (in_hand es)) (sym c.requires.lane.0)
    (Spawn u d a.needs.now r, c.requires.next, λ n. sym (ap (λ (b : Bool). if b then Submitted n t else Sent n r (Spawned u d)) (eq-eqb r r refl))))
