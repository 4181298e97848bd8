use Rattle.std.proofs.Common.{◌≡◌, List, [], sym, ap, subst, ◌∙◌}
use Rattle.std.specs.Prelude.{None, slice_get}
use Rattle.app_core.specs.declared.outline.Outline.TheVariants as of
use Rattle.event_lists.specs.declared.event.Event.{Event}
use Rattle.event_lists.specs.declared.event.Event.TheVariants.{Submitted}
use Rattle.event_lists.specs.Events.{main_of, in_hand}
use Rattle.event_laws.specs.Follows.{program_at, event_of}
use Rattle.world_rule.specs.Steps.{IsNextEffect}
use Rattle.world_words.specs.Lanes.{LaneView, task_name}
use Rattle.store_tests.proofs.carrying.start_unit.Goals as goal

pub submitted-requires-clause-next : goal.submitted-requires-clause-next
submitted-requires-clause-next g c =
    let w = c.args.words.now in
    let v = c.reserve.new.lane in
    let same = c.in_ok-reserve.ensures.room in
    let name : v.name ≡ main_of 0 = ap (λ (z : LaneView). z.name) same ∙ c.requires.hand.0.name in
    let mine : v.mine ≡ [] = ap (λ (z : LaneView). z.mine) same ∙ c.requires.hand.1 in
    let o = of.Spawn c.args.unit None [] 0 in
    subst (λ (es : List Event). IsNextEffect w.program v.progress v.seen v.name es (Submitted 0 (task_name c.args.unit [] None)) (in_hand es)) (sym mine)
    (o, (λ i. slice_get (program_at (name i).rank w.program) 0) ∙ c.requires.next, λ n i. event_of (sym name i).rank o n)
