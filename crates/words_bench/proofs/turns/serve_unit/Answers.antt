use Rattle.std.proofs.Common.{◌≡◌, List, [], ◌∷◌, refl, sym, ap, subst, ◌∙◌, inl}
use Rattle.std.specs.Prelude.{Some, None}
use Rattle.event_lists.specs.declared.lane.LaneName.{LaneName}
use Rattle.event_lists.specs.declared.event.Event.{Event}
use Rattle.event_lists.specs.declared.event.Event.TheVariants.{Sent, TookMessage, Submitted}
use Rattle.event_lists.specs.declared.event.Parcel.TheVariants.{Unit as Spawned}
use Rattle.event_lists.specs.declared.mark.Item.TheVariants.{Task}
use Rattle.event_lists.specs.declared.mark.Mark.{Mark}
use Rattle.event_lists.specs.Events.{in_hand, Begins, IsSubmitted, StandsOn}
use Rattle.event_lists.specs.Dues.{SubmitsFreely}
use Rattle.event_lists.specs.Futures.{needs_of}
use Rattle.event_lists.proofs.ListLemmas.{on_begins, begins_trans}
use Rattle.world_rule.specs.declared.view.Owed.{Owed}
use Rattle.world_rule.specs.declared.view.Pending.TheVariants.{Counted}
use Rattle.world_rule.specs.declared.view.Load.TheVariants.{OfTask}
use Rattle.world_rule.specs.Owing.{took, owed, made_by}
use Rattle.world_words.specs.Lanes.{LaneView, task_name}
use Rattle.words_tests.proofs.WorkLemmas.{needs_nothing}
use Rattle.words_bench.proofs.turns.serve_unit.Goals as goal

pub submitted-requires-clause-dues : goal.submitted-requires-clause-dues
submitted-requires-clause-dues g c =
    let a = c.args in
    let v = c.take_in.new.lane in
    let r = c.requires.carrier.rank in
    let n = c.requires.carrier.number in
    let to = a.lane.now.name.rank in
    let sent = c.requires.carrier.sent in
    let mine : v.mine ≡ TookMessage r n ∷ a.lane.now.mine = c.take_in.ensures.grew.event ∙ ap (λ (o : Owed). took o.pending ∷ a.lane.now.mine) c.requires.carrier.owes in
    subst (λ (es : List Event). SubmitsFreely (in_hand es) v.name v.seen es (task_name a.unit [] None)) (sym mine)
    ((to, (sent.0, sent.1, on_begins sent.0 (Sent n to (Spawned a.unit None)) a.carrier.seen v.seen c.take_in.ensures.learnt sent.2)), refl, refl)

pub returns-clause-knows : goal.returns-clause-knows
returns-clause-knows g c =
    let last = subst (λ (v : LaneView). Begins v.seen c.handled.new.lane.seen) c.pack-task.ensures.lane c.handled.ensures.sees.seen in
    begins_trans _ _ _ c.take_in.ensures.grew.sees.seen (begins_trans _ _ _ c.submitted.ensures.sees.seen last)

pub returns-clause-carrier : goal.returns-clause-carrier
returns-clause-carrier g c =
    let a = c.args in
    let w = a.words.now in
    let n = c.submitted.result in
    let t = task_name a.unit [] None in
    let r = a.lane.now.name.rank in
    let same : c.take_in.new.lane.name ≡ a.lane.now.name = c.take_in.ensures.grew.same.1 in
    let seen : c.pack-task.result.seen ≡ c.submitted.new.lane.seen = c.pack-task.ensures.carrier.1 in
    let here : IsSubmitted r n t c.submitted.new.lane.seen = (c.take_in.new.lane.name, ap (λ (l : LaneName). l.rank) same, subst (StandsOn c.take_in.new.lane.name (Submitted n t)) (sym c.submitted.ensures.now) (inl (refl, refl))) in
    let owes : Some c.pack-task.result.owed ≡ Some (owed (Counted (Task r n)) r (OfTask t)) = sym c.pack-task.ensures.owed ∙ c.submitted.ensures.owing ∙ ap (λ (l : LaneName). made_by l (Submitted n t)) same in
    record {
      number = n;
      table = c.pack-task.ensures.carrier.0 ∙ c.submitted.ensures.same.0 ∙ c.take_in.ensures.grew.same.0 ∙ c.requires.inside.reading.main.table;
      owes = some_owed _ _ owes;
      submitted = subst (IsSubmitted r n t) (sym seen) here;
      needs = subst (λ (log : List Mark). needs_of (Task r n) log ≡ []) (sym seen) (needs_nothing w.ranks w.workers c.submitted.new.lane.seen c.submitted.ensures.sees.run.1.legal r n t refl here);
    }
  where
    some_owed : (x y : Owed) → Some x ≡ Some y → x ≡ y
    some_owed x y e = cc
